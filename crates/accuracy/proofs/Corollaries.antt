-- Without a word that adds the flags tell of the start alone; with one, of the start plus one M.
-- Assumes nothing.
use Prim.Native.Nat.{ℕ, ◌≤◌}
use native.Mathlib.Omega.{arith}
use mathlib.Core.Path.{◌≡◌, refl, ap, subst, ◌∙◌}
use mathlib.Core.Bool.{Bool}
use mathlib.Core.List.{List, [], ◌∷◌}
use lib.IntN.{pos, negsuc, ◌+ℤ◌}
use lib.ListN.{length}
use Rattle.numbers.specs.Signed.{signed}
use Rattle.numbers.specs.Held.{held}
use Rattle.numbers.proofs.Signed.{ud-signed}
use Rattle.numbers.proofs.Held.{held-within}
use Rattle.alu.specs.Answer.{answer}
use Rattle.alu.proofs.Holding.{summed, whole_sum, sums-held}
use Rattle.multiplier.proofs.Halves.{m-exact}
use Rattle.device.specs.declared.registers.Registers.{Registers}
use Rattle.stages.specs.Accumulators.{accumulator_a}
use Rattle.numbers.specs.Every.{Every}
use Rattle.accuracy.specs.Exact.{Inputs}
use Rattle.accuracy.specs.Deeds.{Call, event, after, deeds}
use Rattle.accuracy.specs.Adding.{added}
use Rattle.accuracy.specs.Demand3.{Clear, NoReset, Unreset, Alone, NotBoth}
use Rattle.accuracy.specs.Corollaries.{NoAdds, OneAdd, NothingAfterReset}
use Rattle.accuracy.proofs.Mix.{ms}
use Rattle.accuracy.proofs.Demand3.{calls-mix, parted}

-- the answer is the start and each M added up, held
pub mix-answer : (large : Bool) (r : Registers) (trb : ℕ) (calls : List Call) (ps : List Inputs) → Clear r → Unreset large r trb calls → Alone large r trb calls → added (deeds large r trb calls) ≡ ps → length (ms ps) ≤ 3
    → answer (accumulator_a (after large r trb calls)) ≡ held (negsuc 32767) (pos 32767) (whole_sum (signed r.a) (ms ps))
mix-answer large r trb calls ps clear unreset alone e n = ap answer (calls-mix large r trb calls unreset alone ∙ ap (λ x. summed (accumulator_a r) (ms x)) e) ∙ sums-held (accumulator_a r) (ms ps) clear n

pub no-adds : NoAdds
unfolding whole_sum
no-adds large r trb calls clear unreset alone e =
    let s = ud-signed r.a in
    mix-answer large r trb calls [] clear unreset alone e (omega arith) ∙ held-within (negsuc 32767) (pos 32767) (signed r.a) (omega arith) (omega arith)

pub one-add : OneAdd
unfolding whole_sum
one-add large r trb calls p clear unreset alone apart e =
    mix-answer large r trb calls (p ∷ []) clear unreset alone e (omega arith)
    ∙ ap (λ m. held (negsuc 32767) (pos 32767) (signed r.a +ℤ m)) (m-exact p.k p.l (subst (Every NotBoth) e apart).0)

pub nothing-after-reset : NothingAfterReset
nothing-after-reset large r trb calls ds es e unreset = (parted NoReset ds (event 7 ∷ es) (subst (Every NoReset) e unreset)).1.0 refl
