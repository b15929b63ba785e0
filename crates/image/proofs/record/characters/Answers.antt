-- `characters`: the ending is behind the colon.
use Rattle.std.proofs.Common.{arith}
use Rattle.image.proofs.Records.{ending-near}
use Rattle.image.proofs.record.characters.Goals as goal

pub slice_bounds-result-count : goal.slice_bounds-result-count
slice_bounds-result-count c = omega (arith, ending-near c.args.line.now)

pub slice_bounds-result-start : goal.slice_bounds-result-start
slice_bounds-result-start c = omega (arith, ending-near c.args.line.now)

pub slice_bounds-result-end : goal.slice_bounds-result-end
slice_bounds-result-end c = omega (arith, ending-near c.args.line.now)
