-- Demand 3 of an accumulator alone, on any chip: at most three M are added up as whole numbers and held (`sums-held`), and 32768 times
-- each M is at most its product and at most 32767 below it.
-- Assumes nothing.
use Prim.Native.Nat.{ℕ, suc, ◌+◌, ◌*◌, ◌≤◌}
use native.Mathlib.Omega.{arith}
use mathlib.Core.Path.{◌≡◌, refl, ap}
use mathlib.Core.Bool.{false}
use mathlib.Core.List.{List, [], ◌∷◌}
use lib.IntN.{ℤ, pos, negsuc, ◌+ℤ◌, ◌*ℤ◌}
use lib.ListN.{length}
use Rattle.numbers.specs.Signed.{signed}
use Rattle.numbers.specs.Held.{held}
use Rattle.std.proofs.lemmas.Int.{ints}
use borrow.Author.Differences.{up, down}
use Rattle.numbers.proofs.Held.{Holding, below, above, within, holding}
use Rattle.alu.specs.Answer.{answer}
use Rattle.alu.specs.declared.Accumulator.{Accumulator}
use Rattle.alu.proofs.Holding.{summed, whole_sum, sums-held}
use Rattle.multiplier.specs.Product.{product, m_of}
use Rattle.multiplier.proofs.Halves.{m-near}
use Rattle.numbers.specs.Every.{Every}
use Rattle.accuracy.specs.Exact.{Inputs, in32768ths, products, least, most, held_sum, Accurate}
use Rattle.accuracy.specs.Demand3.{NotBoth}

-- M of each pair of inputs
abbrev pub ms : List Inputs → List ℕ
ms [] = []
ms (p ∷ ps) = m_of p.k p.l ∷ ms ps

pub ms-length : (ps : List Inputs) → length (ms ps) ≡ length ps
ms-length [] = refl
ms-length (p ∷ ps) = ap suc (ms-length ps)

-- e is at least 32768 times t, by at most 32767 for each of n words
abbrev Near : ℤ → ℤ → ℕ → Type 0
Near t e n = (up t * 32768 + down e ≤ up e + down t * 32768) × (up e + down t * 32768 ≤ up t * 32768 + down e + 32767 * n)

-- from one word to the next
near_on : (ps : List Inputs) (t e : ℤ) (n : ℕ) → Near t e n → Every NotBoth ps → Near (whole_sum t (ms ps)) (e +ℤ products ps) (n + length ps)
unfolding whole_sum products
near_on [] t e n h b = omega (arith, ints)
near_on (p ∷ ps) t e n h b =
    let m = signed (m_of p.k p.l) in
    let x = product p.k p.l in
    let f = m-near p.k p.l b.0 in
    let k = near_on ps (t +ℤ m) (e +ℤ x) (suc n) (omega (arith, ints)) b.1 in
    omega (arith, ints)

-- what is near stays near when both are held
held-near : {t e a b : ℤ} (n : ℕ) → Near t e n → Holding (negsuc 32767) (pos 32767) t a → Holding least most e b → Near a b n
unfolding in32768ths
held-near n h (below k) (below l) = omega arith
held-near n h (below k) (above l) = omega arith
held-near n h (below k) (within l) = omega arith
held-near n h (above k) (below l) = omega arith
held-near n h (above k) (above l) = omega arith
held-near n h (above k) (within l) = omega arith
held-near n h (within k) (below l) = omega arith
held-near n h (within k) (above l) = omega arith
held-near n h (within k) (within l) = omega arith

scaled : (z : ℤ) → Near z (in32768ths z) 0
unfolding in32768ths
scaled z = omega (arith, ints)

accurate : (start : ℕ) (ps : List Inputs) (z : ℤ) → Near z (held_sum start ps) (length ps) → Accurate start ps z
unfolding in32768ths
accurate start ps z h =
    let x = held_sum start ps in
    let y = z *ℤ pos 32768 in
    record {
      never-below = omega (arith, ints);
      near = omega (arith, ints);
    }

pub mix-accurate : (a : Accumulator) (ps : List Inputs) → a.flags.ov1 ≡ false → length ps ≤ 3 → Every NotBoth ps → Accurate a.value ps (answer (summed a (ms ps)))
unfolding held_sum
mix-accurate a ps o n b =
    let v = signed a.value in
    let t = whole_sum v (ms ps) in
    let whole = holding (negsuc 32767) (pos 32767) t in
    let exact = holding least most (in32768ths v +ℤ products ps) in
    let near : Near t (in32768ths v +ℤ products ps) (length ps) = omega (arith, near_on ps v (in32768ths v) 0 (scaled v) b) in
    rw (sums-held a (ms ps) o (omega (arith, ms-length ps)))
    (accurate a.value ps (held (negsuc 32767) (pos 32767) t) (held-near (length ps) near whole exact))
