-- The fields above DPH-M stand a place higher on the uPD77C25: half of a word has them where the word of the uPD77P20 has them.
-- Assumes nothing.
use Prim.Native.Nat.{ℕ, ◌/◌}
use native.Mathlib.Omega.{arith}
use mathlib.Core.Path.{◌≡◌}
use Rattle.numbers.specs.Bits.{bits}
use Rattle.word.specs.Places.{OpPlaces, RowPlaces, LdiPlaces}

module _ (w : ℕ) where
  pub psel-place : bits (w / 2) 20 19 ≡ bits w 21 20
  psel-place = omega arith

  pub alu-place : bits (w / 2) 18 15 ≡ bits w 19 16
  alu-place = omega arith

  pub asl-place : bits (w / 2) 14 14 ≡ bits w 15 15
  asl-place = omega arith

  pub dpl-place : bits (w / 2) 13 12 ≡ bits w 14 13
  dpl-place = omega arith

  pub id-place : bits (w / 2) 20 5 ≡ bits w 21 6
  id-place = omega arith

pub op-places : OpPlaces
op-places w =
    λ i. record { psel = psel-place w i; alu = alu-place w i; asl = asl-place w i; dpl = dpl-place w i; dphm = bits w 12 9; rpdcr = bits w 8 8; src = bits w 7 4; dst = bits w 3 0 }

pub row-places : RowPlaces
row-places w = omega arith

pub ldi-places : LdiPlaces
ldi-places w = λ i. record { id = id-place w i; spare = bits w 5 4; dst = bits w 3 0 }
