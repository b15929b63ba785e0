-- A word as C holds it: its row by its two top bits, OP 0, RT 1, JP 2, LDI 3, and a place for the fields of each row, JP's of either chip.
use Rattle.std.specs.Prelude.{ℕ, Bool, false, cond, List, [], ◌∷◌, slice_index_or, Result, Ok, Err}
use Rattle.refusals.specs.Refusals.{number_of}
use Rattle.refusals.specs.declared.Refusal.{Refusal}
use Rattle.word.specs.Fields.{op_fields, jp_fields, code_fields, ldi_fields}
use Rattle.word.specs.Word.{taken_apart, built}
use Rattle.word.specs.declared.Word.{Word}
use Rattle.word.specs.declared.Word.TheVariants.{Op, Rt, Jp, JpCode, Ldi}
use Rattle.word.specs.declared.Built.{Built}
use Rattle.rows.specs.declared.AnyRows.{AnyRows}

-- a refusal's number or 0, and the rows of the word taken apart
pub record TakenAnyRows : Type 0 where
  pub refusal : ℕ
  pub rows : AnyRows

-- "the fields of its own row, and no others": those of the other rows are 0
abbrev pub rows_of : Word → AnyRows
rows_of (Op f) = record { row = 0; op = f; jp = jp_fields 0; code = code_fields 0; ldi = ldi_fields false 0 }
rows_of (Rt f) = record { row = 1; op = f; jp = jp_fields 0; code = code_fields 0; ldi = ldi_fields false 0 }
rows_of (Jp f) = record { row = 2; op = op_fields false 0; jp = f; code = code_fields 0; ldi = ldi_fields false 0 }
rows_of (JpCode f) = record { row = 2; op = op_fields false 0; jp = jp_fields 0; code = f; ldi = ldi_fields false 0 }
rows_of (Ldi f) = record { row = 3; op = op_fields false 0; jp = jp_fields 0; code = code_fields 0; ldi = f }

-- refusal 4 as the taker gives it
unfoldable pub taken_any_rows : Bool → ℕ → TakenAnyRows
taken_any_rows large w = record { refusal = (taken_apart large w).refusal; rows = rows_of (taken_apart large w).word }

-- the number and the rows of each answer of the taker: with 4 "an OP word's fields, all 0"
abbrev pub number_and_rows : Bool → Result AnyRows Refusal → TakenAnyRows
number_and_rows large (Ok rows) = record { refusal = 0; rows = rows }
number_and_rows large (Err refusal) = record { refusal = number_of refusal; rows = rows_of (Op (op_fields large 0)) }

-- a JP word with the fields that its chip has
abbrev pub jump_in : Bool → AnyRows → Word
jump_in large x = cond large (JpCode x.code) (Jp x.jp)

-- what the builder makes of each row's fields
abbrev pub built_by_row : Bool → AnyRows → List Built
built_by_row large x = built large (Op x.op) ∷ built large (Rt x.op) ∷ built large (jump_in large x) ∷ built large (Ldi x.ldi) ∷ []

-- refusal 11; a row above 3 is a field too wide for the two top bits
abbrev pub too_wide : Built
too_wide = record { refusal = 11; bits = 0 }

unfoldable pub built_any_rows : Bool → AnyRows → Built
built_any_rows large x = slice_index_or (built_by_row large x) x.row too_wide
