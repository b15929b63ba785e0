-- The signed sum and difference of two registers with a carry: what the code makes of them, and what a caller may use of a result.
-- Assumes nothing.
use Rattle.std.proofs.Common.{◌≡◌, ℕ, ◌+◌, ◌-◌, ◌/◌, ◌%◌, ◌<◌, ◌≤◌, Bool, true, false, pos, ◌+ℤ◌, ◌-ℤ◌, sym, ap, ◌∙◌, arith}
use mir.Val.{bool_byte}
use Rattle.numbers.specs.Signed.{signed, leaves, kept16}
use Rattle.std.proofs.lemmas.Int.{ints}
use Rattle.numbers.proofs.Signed.{ud-bits, within-range, kept-signed, kept-alike}

module _ (x y k : ℕ) where
  -- the result is the signed sum kept to 16 bits
  pub sum_kept : kept16 (signed x +ℤ signed y +ℤ pos k) ≡ (x + y + k) % 65536
  sum_kept =
      kept-alike (signed x +ℤ signed y +ℤ pos k) (x + y + k) ((x + 32768) / 65536 + (y + 32768) / 65536)
      (omega (arith, ints, ud-bits x, ud-bits y))

  pub difference-kept : y < 65536 → k ≤ 1 → kept16 (signed x -ℤ signed y -ℤ pos k) ≡ (x + 65536 - (y + k)) % 65536
  difference-kept g h =
      kept-alike (signed x -ℤ signed y -ℤ pos k) (x + 65536 - (y + k)) ((x + 32768) / 65536 + 1 - (y + 32768) / 65536)
      (omega (arith, ints, ud-bits x, ud-bits y))

  -- a sum without OV0 is the signed sum itself
  pub sum-exact : leaves (signed x +ℤ signed y +ℤ pos k) ≡ false → signed ((x + y + k) % 65536) ≡ signed x +ℤ signed y +ℤ pos k
  sum-exact e =
      let h = within-range (signed x +ℤ signed y +ℤ pos k) e in
      ap signed (sym sum_kept) ∙ kept-signed (signed x +ℤ signed y +ℤ pos k) h.0 h.1

-- a difference that wraps twice wraps once
pub wrapped_twice : (x y : ℕ) (c : Bool) → y < 65536 → ((x + (65536 - y)) % 65536 + (65536 - bool_byte c)) % 65536 ≡ (x + 65536 - (y + bool_byte c)) % 65536
wrapped_twice x y true h = omega arith
wrapped_twice x y false h = omega arith
