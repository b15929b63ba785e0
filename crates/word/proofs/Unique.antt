-- The contracts are equations with a definition, and no two refusals have one number.
-- Assumes nothing.
use mathlib.Core.Path.{sym, ap, ◌∙◌}
use Rattle.std.specs.Prelude.{Ok, Err}
use Rattle.refusals.proofs.Numbers.{one_number, not_0}
use Rattle.word.specs.Word.{Taken}
use Rattle.word.specs.declared.Built.{Built}
use Rattle.word.specs.Unique.{OneTaken, OneBuilt, OneWord, OneBits, OneTakenApart, OneWordBuilt}

pub one-taken : OneTaken
one-taken large w x y e₁ e₂ = e₁ ∙ sym e₂

pub one-built : OneBuilt
one-built large word x y e₁ e₂ = e₁ ∙ sym e₂

pub one-word : OneWord
one-word large (Ok a) (Ok b) e = λ i. Ok (e i).word
one-word large (Ok a) (Err r) e = absurd (not_0 r (sym (ap (λ (t : Taken). t.refusal) e)))
one-word large (Err r) (Ok b) e = absurd (not_0 r (ap (λ (t : Taken). t.refusal) e))
one-word large (Err r) (Err s) e = ap Err (one_number (ap (λ (t : Taken). t.refusal) e))

pub one-bits : OneBits
one-bits (Ok a) (Ok b) e = λ i. Ok (e i).bits
one-bits (Ok a) (Err r) e = absurd (not_0 r (sym (ap (λ (t : Built). t.refusal) e)))
one-bits (Err r) (Ok b) e = absurd (not_0 r (ap (λ (t : Built). t.refusal) e))
one-bits (Err r) (Err s) e = ap Err (one_number (ap (λ (t : Built). t.refusal) e))

pub one-taken-apart : OneTakenApart
one-taken-apart large w x y e₁ e₂ = one-word large x y (e₁ ∙ sym e₂)

pub one-word-built : OneWordBuilt
one-word-built large word x y e₁ e₂ = one-bits x y (e₁ ∙ sym e₂)
