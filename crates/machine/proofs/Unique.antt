-- The contract of `event` leaves one answer and one RAM: an ending says each of their parts.
-- Assumes nothing.
use mathlib.Core.Path.{sym, ap, ◌∙◌}
use Rattle.machine.specs.Replies.{Ending}
use Rattle.machine.specs.Promises.{OneEnding}

pub one-ending : OneEnding
one-ending large r trb program rom ram kind value x y ram₁ ram₂ e₁ e₂ =
    let p = e₁ ∙ sym e₂ in
    ((λ i. record { number = (p i).number; words = (p i).words; value = (p i).value; registers = (p i).registers; trb = (p i).trb }), ap (λ (e : Ending). e.ram) p)
