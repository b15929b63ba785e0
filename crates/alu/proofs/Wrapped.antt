-- Sums that wrap, and what OV1 and S1 know of them, over any half range H: an accumulator holds v from -H to H - 1.
-- Assumes nothing.
use Rattle.std.proofs.Common.{◌≡◌, ℕ, ◌+◌, ◌*◌, ◌<◌, ◌≤◌, Bool, true, false, ℤ, ◌+ℤ◌, arith}
use Rattle.std.proofs.lemmas.Int.{ints}
use borrow.Author.Differences.{up, down}
use Rattle.alu.specs.Flags.{s1_of, ov1_of}

-- where a sum z comes to rest at v, by OV0 and S0: within the range, or a whole turn of 2 * H away
pub data Landed (H : ℕ) (z v : ℤ) : Bool → Bool → Type 0 where
  inside : {s0 : Bool} → (down z ≤ up z + H) × (up z < down z + H) × (up v + down z ≡ up z + down v) → Landed H z v false s0
  high : (H + down z ≤ up z) × (up v + 2 * H + down z ≡ up z + down v) → Landed H z v true true
  low : (up z + H < down z) × (up v + down z ≡ up z + 2 * H + down v) → Landed H z v true false

-- what OV1 and S1 tell of the whole sum t while the accumulator holds v; from three half ranges on, only its side
pub data Told (H : ℕ) (t v : ℤ) : Bool → Bool → Type 0 where
  exact : {s1 : Bool} → (down t ≤ up t + H) × (up t < down t + H) × (up v + down t ≡ up t + down v) → Told H t v false s1
  over : (H + down t ≤ up t) × (up v + 2 * H + down t ≡ up t + down v) → Told H t v true true
  under : (up t + H < down t) × (up v + down t ≡ up t + 2 * H + down v) → Told H t v true false
  far-over : 3 * H + down t ≤ up t → Told H t v true true
  far-under : up t + 3 * H < down t → Told H t v true false

-- one sum more, while the whole sum is within three half ranges and the operand x within one
module _ (H : ℕ) (t v x w : ℤ) (tl : down t ≤ up t + 3 * H) (th : up t < down t + 3 * H) (xl : down x ≤ up x + H) (xh : up x ≤ down x + H) where
  pub told-on : {ov1 s1 ov0 s0 : Bool} → Told H t v ov1 s1 → Landed H (v +ℤ x) w ov0 s0 → Told H (t +ℤ x) w (ov1_of ov1 s1 s0 ov0) (s1_of ov1 s1 s0)
  told-on (exact a) (inside c) = exact (omega (arith, ints))
  told-on (exact a) (high c) = over (omega (arith, ints))
  told-on (exact a) (low c) = under (omega (arith, ints))
  told-on (over a) (inside c) = over (omega (arith, ints))
  told-on (over a) (high c) = far-over (omega (arith, ints))
  told-on (over a) (low c) = exact (omega (arith, ints))
  told-on (under a) (inside c) = under (omega (arith, ints))
  told-on (under a) (high c) = exact (omega (arith, ints))
  told-on (under a) (low c) = far-under (omega (arith, ints))
  told-on (far-over a) c = absurd (omega arith)
  told-on (far-under a) c = absurd (omega arith)
