-- "held within" two ends, in demand 3: z, or the end that it is beyond.
use Rattle.std.specs.Prelude.{cond, ℤ, int_lt}

unfoldable pub held : ℤ → ℤ → ℤ → ℤ
held least most z = cond (int_lt z least) least (cond (int_lt most z) most z)
