-- The order of bits turned round.
use Rattle.std.specs.Prelude.{ℕ, zero, suc, ◌+◌, ◌*◌, ◌/◌, ◌%◌, ◌^◌}

-- the low `width` bits of x in reverse order: bit 0 becomes the top bit, and the bits above it follow below
unfoldable pub reversed : ℕ → ℕ → ℕ
reversed zero x = 0
reversed (suc width) x = x % 2 * 2 ^ width + reversed width (x / 2)

-- "with all 16 bits reversed"
abbrev pub reversed16 : ℕ → ℕ
reversed16 x = reversed 16 x
