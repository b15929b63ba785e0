-- A word of the uPD77C25 as C holds it: the rows with the fields of JP that this chip has.
use Rattle.std.specs.Prelude.{ℕ, true}
use Rattle.word.specs.Fields.{jp_fields}
use Rattle.word.specs.declared.Built.{Built}
use Rattle.rows.specs.Rows.{TakenAnyRows, taken_any_rows, built_any_rows}
use Rattle.rows.specs.declared.AnyRows.{AnyRows}
use Rattle.board_77c25.specs.declared.LargeRows.{LargeRows}
use Rattle.board_77c25.specs.declared.TakenLargeRows.{TakenLargeRows}

abbrev pub large_rows : AnyRows → LargeRows
large_rows x = record { row = x.row; op = x.op; jp = x.code; ldi = x.ldi }

abbrev pub large_taken : TakenAnyRows → TakenLargeRows
large_taken x = record { refusal = x.refusal; rows = large_rows x.rows }

unfoldable pub taken_large_rows : ℕ → TakenLargeRows
taken_large_rows w = large_taken (taken_any_rows true w)

-- JP's fields of the smaller chip are not looked at
abbrev pub any_large_rows : LargeRows → AnyRows
any_large_rows x = record { row = x.row; op = x.op; jp = jp_fields 0; code = x.jp; ldi = x.ldi }

unfoldable pub built_large_rows : LargeRows → Built
built_large_rows x = built_any_rows true (any_large_rows x)
