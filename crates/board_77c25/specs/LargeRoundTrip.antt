-- Demand 2 of the uPD77C25 in the form that C holds: taking apart and building undo each other for every 24-bit word.
use Rattle.std.specs.Prelude.{ℕ, ◌<◌, ◌≡◌, true}
use Rattle.device.specs.Device.{upd77c25, word_limit}
use Rattle.word.specs.Word.{word_holds}
use Rattle.word.specs.declared.Word.{Word}
use Rattle.rows.specs.Rows.{rows_of}
use Rattle.board_77c25.specs.LargeRows.{large_rows, taken_large_rows, built_large_rows}

abbrev pub LargeRowsTakenThenBuilt : Type 0
LargeRowsTakenThenBuilt = (w : ℕ) → w < word_limit upd77c25 → built_large_rows (taken_large_rows w).rows ≡ record { refusal = 0; bits = w }

abbrev pub LargeRowsBuiltThenTaken : Type 0
LargeRowsBuiltThenTaken =
    (word : Word) → word_holds true word ≡ true → taken_large_rows (built_large_rows (large_rows (rows_of word))).bits ≡ record { refusal = 0; rows = large_rows (rows_of word) }
