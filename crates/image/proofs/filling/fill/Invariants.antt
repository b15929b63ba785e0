-- `fill`: the cells so far and those of the bytes that are left are the cells wanted.
use Rattle.std.proofs.Common.{◌≡◌, ◌+◌, ◌-◌, ◌*◌, false, ◌++◌, length, take, map}
use Rattle.image.specs.Image.{missing, cells}
use Rattle.image.specs.Replies.{marks}
use Rattle.image.proofs.filling.fill.Given as goal

abbrev pub invariant-loop-cell : goal.invariant-loop-cell
invariant-loop-cell g l =
    let width = g.C.Cell.BYTES in
    let size = length l.fn.image in
    let here = map g.C.Cell.number l.image in record {
      bytes_left : length l.rest + width * l.cell-index ≡ width * size;
      none_missing : missing (marks l.rest) ≡ false;
      so_far : take l.cell-index here ++ cells width (size - l.cell-index) (marks l.rest) ≡ cells width size (marks l.given);
    }
