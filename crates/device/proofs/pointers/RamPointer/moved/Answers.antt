-- `moved`: the place in the row is below 16, so no carry reaches the row.
use Rattle.std.proofs.Common.{◌/◌, ◌%◌, ◌<◌, arith}
use lib.Bits.{bit_xor, xor_lt}
use Rattle.device.specs.Pointers.{ram_pointer_moved}
use Rattle.device.proofs.Widths.{low_after-lt}
use Rattle.device.proofs.pointers.RamPointer.moved.Goals as goal

row : (at dphm : _) → at < 4096 → dphm < 4096 → bit_xor at dphm < 4096
row at dphm h k = xor_lt 12 at dphm h k

pub overflow_mul-result : goal.overflow_mul-result
overflow_mul-result c = record { fits = omega (arith, row (c.args.self.0 / 16) c.args.dphm (omega arith) (omega arith)) }

pub overflow_add-result : goal.overflow_add-result
overflow_add-result c =
    record { fits = omega (arith, row (c.args.self.0 / 16) c.args.dphm (omega arith) (omega arith), low_after-lt c.args.dpl (c.args.self.0 % 16) (omega arith)) }

pub returns : goal.returns
unfolding ram_pointer_moved
returns c = rw c.low_after.ensures
