-- `put_cells`: what is left of the bytes is stored behind what is there.
use Rattle.std.proofs.Common.{◌≡◌, ◌*◌, drop}
use Rattle.std.proofs.lemmas.List.Edits.{sets}
use Rattle.image.specs.Image.{cell_bytes}
use Rattle.preset.proofs.writing.put_cells.Given as goal

abbrev pub invariant-loop-i : goal.invariant-loop-i
invariant-loop-i l = sets l.fn.bytes 0 (cell_bytes 2 l.cells) ≡ sets l.bytes (2 * l.i) (cell_bytes 2 (drop l.i l.cells))
