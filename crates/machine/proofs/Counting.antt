-- A run counts the words it finishes, and its parts are runs.
-- Assumes nothing.
use Prim.Native.Nat.{ℕ, zero, suc, ◌+◌}
use native.Mathlib.Omega.{arith}
use native.Mathlib.Nat.{zero-add, add-zero, suc-add}
use mathlib.Core.Path.{◌≡◌, refl, sym, ap, ◌∙◌}
use mathlib.Core.Bool.{Bool, true, false}
use mathlib.Core.List.{List, [], ◌∷◌}
use mathlib.Core.Logic.{inl, inr}
use borrow.Author.Tests.{eqb-true, eqb-false}
use lib.Dec.{eqb}
use lib.ListN.{length}
use Rattle.device.specs.declared.registers.Registers.{Registers}
use Rattle.words.specs.Word.{word_done}
use Rattle.words.proofs.Frames.{word-refused}
use Rattle.machine.specs.Replies.{Ending}
use Rattle.machine.specs.Run.{ran}
use Rattle.machine.specs.Counting.{none, next, AllOrRefused, Counts, RunCounts, RunSplits}
use Rattle.machine.proofs.Runs.{ran_on, ran-refused, ran-none}

module _ (large : Bool) (program rom : List ℕ) where
  -- one word more in front
  more : (n words : ℕ) (r : Registers) (trb : ℕ) (ram : List ℕ) →
      let o = word_done large r trb program rom ram in
      Counts large program rom n (words + 1) o.registers o.trb o.ram (ran large n (words + 1) o.registers o.trb program rom o.ram)
      → (t : Bool) → eqb o.number 0 ≡ t → Counts large program rom (suc n) words r trb ram (ran large (suc n) words r trb program rom ram)
  more n words r trb ram rest true e =
      let o = word_done large r trb program rom ram in
      let z = eqb-true o.number 0 e in
      rw (ran_on large n words r trb program rom ram z)
      (record { found = r ∷ rest.found; finished = next z rest.finished; counted = omega (arith, rest.counted); value = rest.value; ended = lift (length rest.found) (ran large n (words + 1) o.registers o.trb program rom o.ram) rest.ended })
    where
      lift : (done : ℕ) (e : Ending) → AllOrRefused large program rom n done e → AllOrRefused large program rom (suc n) (suc done) e
      lift done e (inl a) = inl (a.0, ap suc a.1)
      lift done e (inr a) = inr (omega (arith, a.0), a.1, a.2)
  more n words r trb ram rest false e =
      let h = eqb-false (word_done large r trb program rom ram).number 0 e in
      let u = word-refused large r trb program rom ram h in
      rw (ran-refused large n words r trb program rom ram h, u.0, u.1, u.2) (record { found = []; finished = none; counted = omega arith; value = refl; ended = inr (omega arith, refl, h) })

-- the words counted are the words done
pub run-counts : RunCounts
run-counts large program rom zero words r trb ram = rw (ran-none large words r trb program rom ram) (record { found = []; finished = none; counted = omega arith; value = refl; ended = inl (refl, refl) })
run-counts large program rom (suc n) words r trb ram =
    let o = word_done large r trb program rom ram in
    more large program rom n words r trb ram (run-counts large program rom n (words + 1) o.registers o.trb o.ram) (eqb o.number 0) refl

-- a run that begins with a finished word
first : (large : Bool) (n words : ℕ) (r : Registers) (trb : ℕ) (program rom ram : List ℕ) → (ran large (suc n) words r trb program rom ram).number ≡ 0 → (word_done large r trb program rom ram).number ≡ 0
first large n words r trb program rom ram e = go (eqb (word_done large r trb program rom ram).number 0) refl
  where
    go : (t : Bool) → eqb (word_done large r trb program rom ram).number 0 ≡ t → (word_done large r trb program rom ram).number ≡ 0
    go true t = eqb-true (word_done large r trb program rom ram).number 0 t
    go false t = let h = eqb-false (word_done large r trb program rom ram).number 0 t in absurd (h (sym (ap (λ x. x.number) (ran-refused large n words r trb program rom ram h)) ∙ e))

-- event 0 with n + m words is n words and then m, where nothing is refused among the first
pub run-splits : RunSplits
run-splits large zero m words r trb program rom ram e = rw (ran-none large words r trb program rom ram, zero-add m, add-zero words)
run-splits large (suc n) m words r trb program rom ram e =
    let o = word_done large r trb program rom ram in
    let z = first large n words r trb program rom ram e in
    let on = ran_on large n words r trb program rom ram z in
    let count : words + suc n ≡ words + 1 + n = omega arith in
    rw (suc-add n m, ran_on large (n + m) words r trb program rom ram z, on, count)
    (run-splits large n m (words + 1) o.registers o.trb program rom o.ram (sym (ap (λ x. x.number) on) ∙ e))
