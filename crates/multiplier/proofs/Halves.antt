-- The size of a product, and what M and N are of it.
-- Assumes nothing.
use Prim.Native.Nat.{ℕ, ◌+◌, ◌*◌, ◌%◌, ◌≤◌, ◌<◌}
use native.Mathlib.Omega.{arith}
use native.Mathlib.Nat.{mul-le-mul}
use mathlib.Core.Path.{◌≡◌}
use mathlib.Core.Logic.{◌⊎◌, inl, inr}
use lib.IntN.{ℤ, pos, negsuc, nat_abs}
use mir.Syntax.{w32}
use mir.Val.{SFits}
use Rattle.numbers.specs.Signed.{signed, floor_div, floor_mod, kept16}
use Rattle.std.proofs.lemmas.Int.{ints, to_z-of_z, fits_signed_mul, unsigned_abs-mul}
use borrow.Author.Differences.{up, down, abs_is}
use Rattle.numbers.proofs.Signed.{abs-signed, least-or-nearer, floor-split, floor_mod-lt, kept-signed, shr-back}
use Rattle.multiplier.specs.Product.{product, m_of}
use Rattle.multiplier.specs.BothLeast.{BothLeast}

-- a product is at most 32768 squared away from 0
pub product_fits : (k l : ℕ) → SFits w32 (product k l)
unfolding product
product_fits k l = fits_signed_mul w32 (signed k) (signed l) 32768 32768 (abs-signed k) (abs-signed l) (omega arith)

-- the low 15 bits of a number are those of its low 16
pub low_15 : (z : ℤ) → kept16 z % 32768 ≡ floor_mod z 32768
unfolding floor_mod
low_15 (pos n) = omega arith
low_15 (negsuc n) = omega arith

-- one input other than -32768 keeps the product 32768 farther from 2 ^ 30
product-less : (k l : ℕ) → (BothLeast k l → ⊥) → nat_abs (product k l) ≤ 1073709056
unfolding product
product-less k l n = rw (unsigned_abs-mul (signed k) (signed l)) (go (least-or-nearer k) (least-or-nearer l))
  where
    go : (signed k ≡ negsuc 32767) ⊎ (nat_abs (signed k) ≤ 32767) → (signed l ≡ negsuc 32767) ⊎ (nat_abs (signed l) ≤ 32767) → nat_abs (signed k) * nat_abs (signed l) ≤ 1073709056
    go (inl a) (inl b) = absurd (n (a, b))
    go (inr a) b = mul-le-mul a (abs-signed l)
    go (inl a) (inr b) = mul-le-mul (abs-signed k) b

module _ (k l : ℕ) (n : BothLeast k l → ⊥) where
  -- unless both inputs are -32768, M is the exact quotient rounded down
  pub m-exact : signed (m_of k l) ≡ floor_div (product k l) 32768
  unfolding m_of
  m-exact = kept-signed (floor_div (product k l) 32768) within.0 within.1
    where
      within : (up (floor_div (product k l) 32768) < 32768 + down (floor_div (product k l) 32768)) × (down (floor_div (product k l) 32768) ≤ 32768 + up (floor_div (product k l) 32768))
      within =
          let z = product k l in
          let s = floor-split z 32768 (omega arith) in
          let m = floor_mod-lt z 32768 (omega arith) in
          let h = product-less k l n in
          let e = abs_is z in
          (omega arith, omega arith)

  -- so 32768 times M is at most the product, and less than 32768 below it
  pub m-near : (up (signed (m_of k l)) * 32768 + down (product k l) ≤ up (product k l) + down (signed (m_of k l)) * 32768)
      × (up (product k l) + down (signed (m_of k l)) * 32768 ≤ up (signed (m_of k l)) * 32768 + down (product k l) + 32767)
  m-near = rw m-exact (omega (arith, floor-split (product k l) 32768 (omega arith), floor_mod-lt (product k l) 32768 (omega arith)))

-- what `grind` may use of a product
pub ruleset products = (product_fits, to_z-of_z, shr-back, low_15)
