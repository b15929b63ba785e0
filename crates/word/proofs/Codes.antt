-- Where the parts of the uPD77C25's jump code stand in the word.
-- Assumes nothing.
use Rattle.std.proofs.Common.{◌≡◌, ℕ, Bool, true, false, refl, arith}
use Rattle.numbers.specs.Bits.{bits}
use Rattle.word.specs.Fields.{aligned}
use Rattle.word.specs.JumpCodes.{condition_of}
use Rattle.word.specs.Word.{jump_of}

-- D18-14 are the code's bits 5 to 1
pub condition_place : (large : Bool) (w : ℕ) → bits (aligned large w) 17 13 ≡ condition_of (jump_of large w)
unfolding condition_of
condition_place true w = omega arith
condition_place false w = refl

-- D13 is the code's lowest bit
pub lowest_place : (w : ℕ) → bits w 13 13 ≡ bits (bits w 21 13) 0 0
lowest_place w = omega arith
