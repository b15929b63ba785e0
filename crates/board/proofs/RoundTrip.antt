-- Taking apart and building undo each other in the form that C holds, because they do for the rows of either chip, and what this form leaves out is not
-- looked at.
-- Assumes nothing.
use mathlib.Core.Path.{ap}
use mathlib.Core.Bool.{false}
use Rattle.rows.specs.Rows.{built_any_rows}
use Rattle.rows.proofs.RoundTrip.{any-rows-taken-then-built, any-rows-built-then-taken}
use Rattle.board.specs.Rows.{small_taken, taken_rows, built_rows}
use Rattle.board.specs.RoundTrip.{RowsTakenThenBuilt, RowsBuiltThenTaken}

pub rows-taken-then-built : RowsTakenThenBuilt
unfolding taken_rows built_rows built_any_rows
rows-taken-then-built w h = any-rows-taken-then-built false w h

pub rows-built-then-taken : RowsBuiltThenTaken
unfolding taken_rows built_rows built_any_rows
rows-built-then-taken word h = ap small_taken (any-rows-built-then-taken false word h)
