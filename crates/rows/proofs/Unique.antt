-- No two refusals have one number, and none has 0.
-- Assumes nothing.
use mathlib.Core.Path.{sym, ap, ◌∙◌}
use Rattle.std.specs.Prelude.{Ok, Err}
use Rattle.refusals.proofs.Numbers.{one_number, not_0}
use Rattle.rows.specs.Rows.{TakenAnyRows}
use Rattle.word.proofs.Unique.{one-bits}
use Rattle.rows.specs.Unique.{OneRows, OneTakenRows, OneBuiltRows}

pub one-rows : OneRows
one-rows large (Ok a) (Ok b) e = λ i. Ok (e i).rows
one-rows large (Ok a) (Err r) e = absurd (not_0 r (sym (ap (λ (t : TakenAnyRows). t.refusal) e)))
one-rows large (Err r) (Ok b) e = absurd (not_0 r (ap (λ (t : TakenAnyRows). t.refusal) e))
one-rows large (Err r) (Err s) e = ap Err (one_number (ap (λ (t : TakenAnyRows). t.refusal) e))

pub one-taken-rows : OneTakenRows
one-taken-rows large w x y e₁ e₂ = one-rows large x y (e₁ ∙ sym e₂)

pub one-built-rows : OneBuiltRows
one-built-rows large rows x y e₁ e₂ = one-bits x y (e₁ ∙ sym e₂)
