-- `put_cells`: what is left of the bytes is stored behind what is there.
use Rattle.std.proofs.Common.{sym, ◌∙◌, arith}
use Rattle.image.specs.Image.{cell_bytes}
use Rattle.image.proofs.CellBytes.{length-bytes}
use Rattle.preset.proofs.Stores.{cell-next, cells-done, sets-all}
use Rattle.preset.proofs.writing.put_cells.Goals as goal

pub loop-i-preserved : goal.loop-i-preserved
loop-i-preserved c =
    let now = c.loop-i in
    now.invariant ∙ cell-next c.args.cells.now now.bytes c.to_le_bytes.result now.i (omega arith) c.to_le_bytes.ensures

pub returns : goal.returns
returns c =
    let cells = c.args.cells.now in
    let all = sets-all (cell_bytes 2 cells) c.args.bytes.now (omega (arith, length-bytes 2 cells)) in
    sym (cells-done cells c.loop-i.bytes _ c.loop-i.i (omega arith)) ∙ sym c.loop-i.invariant ∙ all
