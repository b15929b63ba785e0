-- `data_part`: a refused record's part is at the line's beginning.
use Rattle.std.proofs.Common.{arith}
use Rattle.image.proofs.Records.{part-refused, is-refused}
use Rattle.image.proofs.record.data_part.Goals as goal

pub returns-in-Err-clause-place : goal.returns-in-Err-clause-place
returns-in-Err-clause-place c =
    let line = c.args.line.now in
    omega (arith, (part-refused line (is-refused line c.in-Err.field-0 c.in-Err.ensures)).1)
