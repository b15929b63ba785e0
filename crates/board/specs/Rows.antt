-- A word as C holds it for the uPD77P20: the rows with the fields of JP that this chip has.
use Rattle.std.specs.Prelude.{ℕ, false}
use Rattle.word.specs.Fields.{code_fields}
use Rattle.word.specs.declared.Built.{Built}
use Rattle.rows.specs.Rows.{TakenAnyRows, taken_any_rows, built_any_rows}
use Rattle.rows.specs.declared.AnyRows.{AnyRows}
use Rattle.board.specs.declared.Rows.{Rows}
use Rattle.board.specs.declared.TakenRows.{TakenRows}

abbrev pub small_rows : AnyRows → Rows
small_rows x = record { row = x.row; op = x.op; jp = x.jp; ldi = x.ldi }

abbrev pub small_taken : TakenAnyRows → TakenRows
small_taken x = record { refusal = x.refusal; rows = small_rows x.rows }

unfoldable pub taken_rows : ℕ → TakenRows
taken_rows w = small_taken (taken_any_rows false w)

-- JP's fields of the larger chip are not looked at
abbrev pub any_rows : Rows → AnyRows
any_rows x = record { row = x.row; op = x.op; jp = x.jp; code = code_fields 0; ldi = x.ldi }

unfoldable pub built_rows : Rows → Built
built_rows x = built_any_rows false (any_rows x)
