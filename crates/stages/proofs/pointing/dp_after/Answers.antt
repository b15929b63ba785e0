-- `dp_after`: with DPL and DPH-M 0 the definition leaves DP too.
use Rattle.std.proofs.Common.{sym, ◌∙◌}
use Rattle.word.specs.Fields.{op_fields}
use Rattle.stages.proofs.Keeping.{dp_after-idle}
use Rattle.stages.proofs.Still.{dp-still}
use Rattle.stages.proofs.pointing.dp_after.Goals as goal

pub returns-then-rests : goal.returns-then-rests
returns-then-rests g c =
    let s = c.args in
    let still = dp-still g.C.Chip.LARGE s.w (sym c.rests.ensures ∙ c.if-rests.true) in
    sym (dp_after-idle s.dp (op_fields g.C.Chip.LARGE s.w) still.0 still.1)
