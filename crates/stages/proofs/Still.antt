-- The bits of DPL, DPH-M and RPDCR stand side by side on either chip: where they are 0 together, each is 0.
-- Assumes nothing.
use Prim.Native.Nat.{ℕ}
use native.Mathlib.Omega.{arith}
use mathlib.Core.Path.{◌≡◌}
use mathlib.Core.Bool.{Bool, true, false, cond}
use borrow.Author.Tests.{eqb-true}
use lib.Dec.{eqb}
use Rattle.numbers.specs.Bits.{bits}
use Rattle.word.specs.Fields.{op_fields}

dp-still-bits : (large : Bool) (w : ℕ) → cond large (bits w 14 9) (bits w 13 9) ≡ 0 → ((op_fields large w).dpl ≡ 0) × ((op_fields large w).dphm ≡ 0)
dp-still-bits true w e = (omega arith, omega arith)
dp-still-bits false w e = (omega arith, omega arith)

still-bits : (large : Bool) (w : ℕ) → cond large (bits w 14 8) (bits w 13 8) ≡ 0
    → ((op_fields large w).dpl ≡ 0) × ((op_fields large w).dphm ≡ 0) × ((op_fields large w).rpdcr ≡ 0)
still-bits true w e = (omega arith, omega arith, omega arith)
still-bits false w e = (omega arith, omega arith, omega arith)

pub dp-still : (large : Bool) (w : ℕ) → eqb (cond large (bits w 14 9) (bits w 13 9)) 0 ≡ true → ((op_fields large w).dpl ≡ 0) × ((op_fields large w).dphm ≡ 0)
dp-still large w e = dp-still-bits large w (eqb-true (cond large (bits w 14 9) (bits w 13 9)) 0 e)

pub still : (large : Bool) (w : ℕ) → eqb (cond large (bits w 14 8) (bits w 13 8)) 0 ≡ true
    → ((op_fields large w).dpl ≡ 0) × ((op_fields large w).dphm ≡ 0) × ((op_fields large w).rpdcr ≡ 0)
still large w e = still-bits large w (eqb-true (cond large (bits w 14 8) (bits w 13 8)) 0 e)
