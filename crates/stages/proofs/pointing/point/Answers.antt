-- `point`: where nothing moves the definition leaves both pointers.
use Rattle.std.proofs.Common.{sym, ◌∙◌}
use Rattle.word.specs.Fields.{op_fields}
use Rattle.stages.proofs.Keeping.{pointed-idle}
use Rattle.stages.proofs.Still.{still}
use Rattle.stages.proofs.pointing.point.Goals as goal

pub returns-then-rests : goal.returns-then-rests
returns-then-rests g c =
    let s = c.args in
    let at_rest = still g.C.Chip.LARGE s.w (sym c.rests.ensures ∙ c.if-rests.true) in
    sym (pointed-idle g.C.Chip.LARGE s.r (op_fields g.C.Chip.LARGE s.w) at_rest.0 at_rest.1 at_rest.2)
