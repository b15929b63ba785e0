-- An ending says each part of the reply, the record and the RAM; the other contracts are equations.
-- Assumes nothing.
use mathlib.Core.Path.{sym, ap, ◌∙◌}
use Rattle.machine.specs.Replies.{Ending}
use Rattle.board_77c25.specs.LargeUnique.{OneReply, OneTaken, OneBuilt}

pub one-reply : OneReply
one-reply r program rom ram kind value x y q₁ q₂ ram₁ ram₂ e₁ e₂ =
    let p = e₁ ∙ sym e₂ in (
      (λ i. record { number = (p i).number; words = (p i).words; value = (p i).value }),
      (λ i. record { registers = (p i).registers; trb = (p i).trb }),
      ap (λ (e : Ending). e.ram) p,
    )

pub one-taken : OneTaken
one-taken w x y e₁ e₂ = e₁ ∙ sym e₂

pub one-built : OneBuilt
one-built rows x y e₁ e₂ = e₁ ∙ sym e₂
