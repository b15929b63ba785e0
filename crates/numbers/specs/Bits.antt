-- Bits of a number by their places: bit 0 is the lowest.
use Rattle.std.specs.Prelude.{ℕ, ◌+◌, ◌-◌, ◌*◌, ◌/◌, ◌%◌, ◌^◌, Bool, nat_lt}

-- bits `high` to `low` of x, as a number
abbrev pub bits : ℕ → ℕ → ℕ → ℕ
bits x high low = x / 2 ^ low % 2 ^ (high + 1 - low)

-- a number that bits `high` to `low` hold
abbrev pub holds : ℕ → ℕ → ℕ → Bool
holds high low field = nat_lt field (2 ^ (high + 1 - low))

-- a number that stands at bit `low` and above
abbrev pub at : ℕ → ℕ → ℕ
at low field = field * 2 ^ low
