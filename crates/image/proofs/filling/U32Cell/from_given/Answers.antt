-- `from_given` of four bytes.
use Rattle.std.proofs.Common.{arith}
use Rattle.image.proofs.Fills.{value-next, value-end}
use Rattle.image.proofs.filling.U32Cell.from_given.Goals as goal

pub returns : goal.returns
returns c =
    let bytes = c.args.given.now in
    omega (
      arith,
      value-next bytes 0 c.unwrap.result (omega arith) c.unwrap.ensures (omega arith),
      value-next bytes 1 c.unwrap-2.result (omega arith) c.unwrap-2.ensures (omega arith),
      value-next bytes 2 c.unwrap-3.result (omega arith) c.unwrap-3.ensures (omega arith),
      value-next bytes 3 c.unwrap-4.result (omega arith) c.unwrap-4.ensures (omega arith),
      value-end bytes 4 (omega arith),
    )
