-- Demand 2 in the form that C holds: taking apart and building "undo each other for every 23-bit word"; of the uPD77C25 for every 24-bit word.
use Rattle.std.specs.Prelude.{ℕ, ◌<◌, ◌≡◌, Bool, true}
use Rattle.device.specs.Device.{chip, word_limit}
use Rattle.word.specs.Word.{word_holds}
use Rattle.word.specs.declared.Word.{Word}
use Rattle.rows.specs.Rows.{rows_of, taken_any_rows, built_any_rows}

abbrev pub AnyRowsTakenThenBuilt : Type 0
AnyRowsTakenThenBuilt = (large : Bool) (w : ℕ) → w < word_limit (chip large) → built_any_rows large (taken_any_rows large w).rows ≡ record { refusal = 0; bits = w }

abbrev pub AnyRowsBuiltThenTaken : Type 0
AnyRowsBuiltThenTaken =
    (large : Bool) (word : Word) → word_holds large word ≡ true → taken_any_rows large (built_any_rows large (rows_of word)).bits ≡ record { refusal = 0; rows = rows_of word }
