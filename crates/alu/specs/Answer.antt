-- What demand 3 takes of an accumulator: "Take A if OV1 is 0, else SGN."
use Rattle.std.specs.Prelude.{cond, ℤ}
use Rattle.numbers.specs.Signed.{signed}
use Rattle.alu.specs.Flags.{sgn_of}
use Rattle.alu.specs.declared.Accumulator.{Accumulator}

unfoldable pub answer : Accumulator → ℤ
answer a = signed (cond a.flags.ov1 (sgn_of a.flags.s1) a.value)
