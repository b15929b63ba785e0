-- The contract of `one_word` leaves one answer and one RAM: an outcome says each of their parts.
-- Assumes nothing.
use mathlib.Core.Path.{sym, ap, ◌∙◌}
use Rattle.words.specs.Outcomes.{Outcome}
use Rattle.words.specs.OneWord.{OneOutcome}

pub one-outcome : OneOutcome
one-outcome large r trb program rom ram x y ram₁ ram₂ e₁ e₂ =
    let p = e₁ ∙ sym e₂ in
    ((λ i. record { number = (p i).number; state = record { trb = (p i).trb; registers = (p i).registers } }), ap (λ (o : Outcome). o.ram) p)
