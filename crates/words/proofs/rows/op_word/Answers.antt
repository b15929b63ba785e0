-- `op_word`: the stages in a row are the definition (`Composed`).
use Rattle.std.proofs.Common.{ap, ◌∙◌, leb}
use Rattle.refusals.specs.Refusals.{number_unless_ok}
use Rattle.word.specs.Fields.{aligned, op_fields}
use Rattle.codes.specs.Codes.{source_of, destination_of}
use Rattle.words.proofs.Composed.{op-composed}
use Rattle.words.proofs.rows.op_word.Goals as goal

pub returns : goal.returns
returns g c =
    let s = c.args in
    let large = g.C.Chip.LARGE in
    let done = ap number_unless_ok c.in_default.is in
    rw c.finish.ensures
    (op-composed large (leb 2097152 (aligned large s.w)) s.state.registers s.state.trb (op_fields large s.w) s.ram.now s.rom.now c.check_op.ensures done
    (c.from-source.ensures ∙ ap source_of c.bits.ensures) (c.from-destination.ensures ∙ ap destination_of c.bits-2.ensures) c.bits-3.ensures
    c.bus_value-bus.ensures c.load_trb-trb.ensures c.read_from-read.ensures c.accumulate-operated.ensures
    c.load-loaded.ensures.0 c.load-loaded.ensures.1 c.point-pointed.ensures c.leave-registers.ensures)
