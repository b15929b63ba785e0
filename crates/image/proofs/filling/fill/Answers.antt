-- `fill`: one more cell is the cell wanted, and in the end all are.
use Rattle.std.proofs.Common.{ℕ, List, length, take, drop, map, ap, ◌∙◌, arith}
use Rattle.std.specs.Prelude.{Option}
use Rattle.std.proofs.lemmas.List.{length-map}
use Rattle.image.specs.Image.{missing}
use Rattle.image.specs.Replies.{marks}
use Rattle.image.proofs.Fills.{whole-take, whole-drop, cell-left, fill-more, fill-all}
use Rattle.image.proofs.filling.fill.Goals as goal

pub from_given-requires-clause-whole : goal.from_given-requires-clause-whole
from_given-requires-clause-whole g c =
    ap (λ (b : List (Option ℕ)). missing (marks b)) c.split_at.ensures.front
    ∙ whole-take c.BYTES.result c.loop-cell.rest.now c.loop-cell.invariant.none_missing

pub loop-cell-preserved : goal.loop-cell-preserved
loop-cell-preserved g c =
    let now = c.loop-cell in
    let width = g.C.Cell.BYTES in
    let size = length c.args.image.now in
    let rest = now.rest.now in
    let parts = c.split_at.ensures in
    let h = c.loop-cell-test.true in record {
      bytes_left = omega (arith, parts.back_len, cell-left width now.cell-index size (length rest) now.invariant.bytes_left h, c.BYTES.ensures);
      none_missing =
          ap (λ (b : List (Option ℕ)). missing (marks b)) parts.back ∙ whole-drop c.BYTES.result rest now.invariant.none_missing;
      so_far =
          fill-more g.C.Cell.number width size now.cell-index now.image c.from_given.result c.split_at.result.0.now rest c.split_at.result.1.now _ h
          now.auto.image c.from_given.ensures (parts.front ∙ ap (λ (k : ℕ). take k rest) c.BYTES.ensures)
          (parts.back ∙ ap (λ (k : ℕ). drop k rest) c.BYTES.ensures) now.invariant.so_far;
    }

pub returns : goal.returns
returns g c =
    let now = c.loop-cell in
    let size = length c.args.image.now in
    fill-all g.C.Cell.BYTES size now.cell-index (map g.C.Cell.number now.image) (marks now.rest.now) _
    (length-map now.image g.C.Cell.number ∙ now.auto.image) (omega arith) now.invariant.so_far
