-- Signed whole numbers and the 16 bits that a register holds of them.
-- A register is a number below 65536; a signed whole number is a ℤ: `pos n` is n, `negsuc n` is -(n + 1).
use Rattle.std.specs.Prelude.{ℕ, ◌-◌, ◌/◌, ◌%◌, Bool, cond, ◌||◌, ℤ, pos, negsuc, ◌-ℤ◌, int_lt, nat_lt}

-- the signed value of a register: its 16 bits, less 65536 where the top bit is 1
unfoldable pub signed : ℕ → ℤ
signed x =
    let bits = x % 65536 in
    cond (nat_lt bits 32768) (pos bits) (pos bits -ℤ pos 65536)

-- "leaves -32768 to 32767"
unfoldable pub leaves : ℤ → Bool
leaves z = int_lt z (negsuc 32767) || int_lt (pos 32767) z

-- "divided by .., rounded down", and what is left: z is m * floor_div z m + floor_mod z m
unfoldable pub floor_div : ℤ → ℕ → ℤ
floor_div (pos n) m = pos (n / m)
floor_div (negsuc n) m = negsuc (n / m)

unfoldable pub floor_mod : ℤ → ℕ → ℕ
floor_mod (pos n) m = n % m
floor_mod (negsuc n) m = m - 1 - n % m

-- "kept to 16 bits"
abbrev pub kept16 : ℤ → ℕ
kept16 z = floor_mod z 65536
