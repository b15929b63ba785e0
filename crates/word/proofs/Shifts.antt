-- What the code makes by a shift: a word's bits from a place up.
use Rattle.std.proofs.Common.{◌≡◌, ℕ, ◌+◌, ◌-◌, ◌/◌, ◌%◌, ◌^◌, ◌<◌, ◌≤◌, ap, ◌∙◌, arith}
use Rattle.std.proofs.Math.Nat.{zero-mod, div-eq_of_lt, mod-eq_of_lt, lt_of_lt_of_le}
use Rattle.std.proofs.Math.Pow.{pow_mono, shr_lt}
use Rattle.numbers.specs.Bits.{bits}

-- a place beyond a word's 32 bits holds 0
pub beyond_top : (w high low : ℕ) → w < 2 ^ 32 → 32 ≤ low → bits w high low ≡ 0
beyond_top w high low h l = ap (λ n. n % 2 ^ (high + 1 - low)) (div-eq_of_lt (lt_of_lt_of_le h (pow_mono l))) ∙ zero-mod (2 ^ (high + 1 - low))

-- bits that reach to the top one are all that the shift leaves
pub to_the_top : (w high low : ℕ) → w < 2 ^ 32 → low ≤ high → 31 ≤ high → bits w high low ≡ w / 2 ^ low
to_the_top w high low h l t =
    let le : 32 ≤ (high + 1 - low) + low = omega arith in
    mod-eq_of_lt (shr_lt (high + 1 - low) low (lt_of_lt_of_le h (pow_mono le)))
