-- One bit set or cleared by its mask, and what a mask of several fields leaves, field by field from the lowest.
-- Assumes nothing.
use Rattle.std.proofs.Common.{◌≡◌, ℕ, ◌+◌, ◌-◌, ◌*◌, ◌/◌, ◌%◌, ◌^◌, ◌<◌, sym, ap, ◌∙◌, mod-lt, arith}
use Rattle.std.proofs.lemmas.Nat.Bits.{and_pow}
use Rattle.std.proofs.lemmas.Nat.{one_shl, pow_below, pow_pos, shr_split, and_block, and_mask, and_assoc, and_comm, and-not, or_disjoint}
use Rattle.std.specs.Int.Bits.{bit_and, bit_or, and_zero_r, or_add_and}
use Rattle.status.specs.Status.{status_loaded}

pub set : (n k : ℕ) → k < 16 → bit_or n (1 * 2 ^ k % 65536) + n / 2 ^ k % 2 * 2 ^ k ≡ n + 2 ^ k
set n k h = rw (one_shl k 16 h, ← and_pow n k) (or_add_and n (2 ^ k))

pub cleared : (n k : ℕ) → n < 65536 → k < 16 → bit_and n (65535 - 1 * 2 ^ k % 65536) + n / 2 ^ k % 2 * 2 ^ k ≡ n
cleared n k l h = rw (one_shl k 16 h, ← and_pow n k, and_comm n (65535 - 2 ^ k), and_comm n (2 ^ k)) (and-not 16 (2 ^ k) n (pow_below k 16 h) l)

-- the low k bits and those above them are masked each for themselves
field : (k x high low : ℕ) → low < 2 ^ k → bit_and x (high * 2 ^ k + low) ≡ bit_and (x / 2 ^ k) high * 2 ^ k + bit_and (x % 2 ^ k) low
field k x high low h = ap (λ n. bit_and n (high * 2 ^ k + low)) (sym (shr_split x k)) ∙ and_block k (x / 2 ^ k) high (x % 2 ^ k) low (mod-lt x (pow_pos k)) h

-- bits 15, 12 and 6 to 2
kept : (x : ℕ) → x < 65536 → bit_and x 0x907c ≡ x / 0x8000 * 0x8000 + x / 0x1000 % 2 * 0x1000 + x / 4 % 0x20 * 4
kept x h =
    let f0 = field 2 x 0x241f 0 (omega arith) in
    let f2 = field 5 (x / 4) 0x120 0x1f (omega arith) in
    let f7 = field 5 (x / 4 / 0x20) 9 0 (omega arith) in
    let f12 = field 1 (x / 4 / 0x20 / 0x20) 4 1 (omega arith) in
    let f13 = field 2 (x / 4 / 0x20 / 0x20 / 2) 1 0 (omega arith) in
    omega (arith, f0, f2, f7, f12, f13, and_zero_r (x % 4), and_mask (x / 4 % 0x20) 5, and_zero_r (x / 4 / 0x20 % 0x20), and_mask (x / 4 / 0x20 / 0x20 % 2) 1, and_zero_r (x / 4 / 0x20 / 0x20 / 2 % 4), and_mask (x / 4 / 0x20 / 0x20 / 2 / 4) 1)

-- what a mask keeps of x and what its complement keeps of y have no bit in common
apart : (x y : ℕ) → bit_and (bit_and x 0x907c) (bit_and y 0x6f83) ≡ 0
apart x y = rw (and_comm y 0x6f83, and_assoc (bit_and 0x6f83 y) x 0x907c, ← and_assoc y 0x907c 0x6f83) (and_zero_r x)

pub loaded : (sr bus : ℕ) → sr < 65536 → bus < 65536 → bit_or (bit_and sr 0x907c) (bit_and bus 0x6f83) ≡ status_loaded sr bus
loaded sr bus h k =
    omega (arith, or_disjoint (bit_and sr 0x907c) (bit_and bus 0x6f83) (apart sr bus), kept sr h, kept bus k, and-not 16 0x907c bus (omega arith) k, and_comm bus 0x6f83, and_comm bus 0x907c)
