-- At most three sums: OV1 and S1 tell where the whole sum is, so A, or SGN where OV1 is 1, is that sum held within 16 bits.
-- Assumes nothing.
use Rattle.std.proofs.Common.{◌≡◌, ℕ, ◌+◌, ◌*◌, ◌%◌, ◌<◌, ◌≤◌, Bool, true, false, cond, ◌||◌, leb, List, [], ◌∷◌, length, ℤ, pos, negsuc, ◌+ℤ◌, sym, refl, ◌∙◌, subst, arith, leb-false, leb-true}
use lib.IntN.{+ℤ_idr}
use Rattle.numbers.specs.Signed.{signed, leaves}
use Rattle.numbers.specs.Held.{held}
use Rattle.std.proofs.lemmas.Int.{ints}
use borrow.Author.Differences.{up, down}
use lib.Signed.{lt_z}
use Rattle.numbers.proofs.Signed.{ud-signed, signs}
use Rattle.numbers.proofs.Held.{held_below, held-above, held-within}
use Rattle.alu.specs.Flags.{s0_of, ov0_of, sgn_of, sum_flags}
use Rattle.alu.specs.Operations.{plus}
use Rattle.alu.specs.Answer.{answer}
use Rattle.alu.specs.declared.Accumulator.{Accumulator}
use Rattle.alu.proofs.Wrapped.{Landed, inside, high, low, Told, exact, over, under, far-over, far-under, told-on}

-- ---- where a sum of 16 bits lands

pub landed : (x y k : ℕ) → k ≤ 1 → Landed 32768 (signed x +ℤ signed y +ℤ pos k) (signed ((x + y + k) % 65536)) (ov0_of (signed x +ℤ signed y +ℤ pos k)) (s0_of ((x + y + k) % 65536))
unfolding leaves
landed x y k h = go (lt_z z (negsuc 32767)) (lt_z (pos 32767) z) (leb 32768 r) refl refl refl
  where
    z : ℤ
    z = signed x +ℤ signed y +ℤ pos k

    r : ℕ
    r = (x + y + k) % 65536

    go : (a b c : Bool) → lt_z z (negsuc 32767) ≡ a → lt_z (pos 32767) z ≡ b → leb 32768 r ≡ c → Landed 32768 z (signed r) (a || b) c
    go true b true ea eb ec = absurd (omega (arith, signs, leb-true 32768 r ec))
    go true b false ea eb ec = low (omega (arith, signs, leb-false 32768 r ec))
    go false true true ea eb ec = high (omega (arith, signs, leb-true 32768 r ec))
    go false true false ea eb ec = absurd (omega (arith, signs, leb-false 32768 r ec))
    go false false c ea eb ec = inside (omega (arith, signs))

-- ---- one sum after another

-- what the flags of an accumulator tell of the whole sum
abbrev pub Tells : ℤ → Accumulator → Type 0
Tells t a = Told 32768 t (signed a.value) a.flags.ov1 a.flags.s1

pub tells-on : (a : Accumulator) (y : ℕ) (t : ℤ) → down t ≤ up t + 98304 → up t < down t + 98304 → Tells t a → Tells (t +ℤ signed y) (plus a y 0)
unfolding plus sum_flags
tells-on a y t l h k =
    let s = ud-signed y in
    told-on 32768 t (signed a.value) (signed y) (signed ((a.value + y + 0) % 65536)) l h (omega arith) (omega arith) k
    (subst (λ z. Landed 32768 z (signed ((a.value + y + 0) % 65536)) (ov0_of (signed a.value +ℤ signed y +ℤ pos 0)) (s0_of ((a.value + y + 0) % 65536))) (+ℤ_idr (signed a.value +ℤ signed y)) (landed a.value y 0 (omega arith)))

module _ (t : ℤ) where
  abbrev within16 : ℤ
  within16 = held (negsuc 32767) (pos 32767) t

  beyond : 32768 + down t ≤ up t → within16 ≡ pos 32767
  beyond h = held-above (negsuc 32767) (pos 32767) t (omega arith) (omega arith)

  beneath : up t + 32768 < down t → within16 ≡ negsuc 32767
  beneath h = held_below (negsuc 32767) (pos 32767) t (omega arith)

  same : (v : ℤ) → (down t ≤ up t + 32768) × (up t < down t + 32768) × (up v + down t ≡ up t + down v) → v ≡ within16
  same v h = omega (arith, ints) ∙ sym (held-within (negsuc 32767) (pos 32767) t (omega arith) (omega arith))

  -- SGN is the end of the range beyond which the flags tell that the sum is
  told-answer : (value : ℕ) {ov1 s1 : Bool} → Told 32768 t (signed value) ov1 s1 → signed (cond ov1 (sgn_of s1) value) ≡ within16
  told-answer value (exact a) = same (signed value) a
  told-answer value (over a) = unfold signed in sym (beyond a.0)
  told-answer value (under a) = unfold signed in sym (beneath a.0)
  told-answer value (far-over a) = unfold signed in sym (beyond (omega arith))
  told-answer value (far-under a) = unfold signed in sym (beneath (omega arith))

-- the operands ys added one after the other
unfoldable pub summed : Accumulator → List ℕ → Accumulator
summed a [] = a
summed a (y ∷ ys) = summed (plus a y 0) ys

-- the whole number that no width holds back
unfoldable pub whole_sum : ℤ → List ℕ → ℤ
whole_sum z [] = z
whole_sum z (y ∷ ys) = whole_sum (z +ℤ signed y) ys

-- the whole sum is within three half ranges before each sum: the sums to come are what is left of four
sums_on : (ys : List ℕ) (a : Accumulator) (t : ℤ) → Tells t a → down t + length ys * 32768 ≤ up t + 131072 → up t + length ys * 32768 < down t + 131072
    → answer (summed a ys) ≡ held (negsuc 32767) (pos 32767) (whole_sum t ys)
unfolding summed whole_sum answer
sums_on [] a t k l h = told-answer t a.value k
sums_on (y ∷ ys) a t k l h =
    let s = ud-signed y in
    sums_on ys (plus a y 0) (t +ℤ signed y) (tells-on a y t (omega arith) (omega arith) k) (omega (arith, ints)) (omega (arith, ints))

-- from OV1 0, after at most three sums, the answer is the whole sum held within -32768 to 32767
pub sums-held : (a : Accumulator) (ys : List ℕ) → a.flags.ov1 ≡ false → length ys ≤ 3
    → answer (summed a ys) ≡ held (negsuc 32767) (pos 32767) (whole_sum (signed a.value) ys)
sums-held a ys e n =
    let s = ud-signed a.value in
    sums_on ys a (signed a.value) (rw e (exact (omega arith))) (omega arith) (omega arith)
