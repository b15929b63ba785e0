-- Taking apart and building undo each other in the form that C holds, because they do for the rows of either chip, and what this form leaves out is not
-- looked at.
-- Assumes nothing.
use mathlib.Core.Path.{ap}
use mathlib.Core.Bool.{true}
use Rattle.rows.specs.Rows.{built_any_rows}
use Rattle.rows.proofs.RoundTrip.{any-rows-taken-then-built, any-rows-built-then-taken}
use Rattle.board_77c25.specs.LargeRows.{large_taken, taken_large_rows, built_large_rows}
use Rattle.board_77c25.specs.LargeRoundTrip.{LargeRowsTakenThenBuilt, LargeRowsBuiltThenTaken}

pub large-rows-taken-then-built : LargeRowsTakenThenBuilt
unfolding taken_large_rows built_large_rows built_any_rows
large-rows-taken-then-built w h = any-rows-taken-then-built true w h

pub large-rows-built-then-taken : LargeRowsBuiltThenTaken
unfolding taken_large_rows built_large_rows built_any_rows
large-rows-built-then-taken word h = ap large_taken (any-rows-built-then-taken true word h)
