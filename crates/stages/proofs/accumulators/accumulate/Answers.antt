-- `accumulate`: with no operation the definition leaves everything.
use Rattle.std.proofs.Common.{sym, arith}
use Rattle.word.specs.Fields.{op_fields}
use Rattle.stages.proofs.Keeping.{accumulated-idle}
use Rattle.stages.proofs.accumulators.accumulate.Goals as goal

pub returns-then-code-eq0 : goal.returns-then-code-eq0
returns-then-code-eq0 g c =
    let s = c.args in
    sym (accumulated-idle s.r (op_fields g.C.Chip.LARGE s.w) s.bus s.ram.now (omega arith))
