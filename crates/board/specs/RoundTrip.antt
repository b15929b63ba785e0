-- Demand 2 in the form that C holds: taking apart and building "undo each other for every 23-bit word".
use Rattle.std.specs.Prelude.{ℕ, ◌<◌, ◌≡◌, true, false}
use Rattle.device.specs.Device.{upd77p20, word_limit}
use Rattle.word.specs.Word.{word_holds}
use Rattle.word.specs.declared.Word.{Word}
use Rattle.rows.specs.Rows.{rows_of}
use Rattle.board.specs.Rows.{small_rows, taken_rows, built_rows}

abbrev pub RowsTakenThenBuilt : Type 0
RowsTakenThenBuilt = (w : ℕ) → w < word_limit upd77p20 → built_rows (taken_rows w).rows ≡ record { refusal = 0; bits = w }

abbrev pub RowsBuiltThenTaken : Type 0
RowsBuiltThenTaken = (word : Word) → word_holds false word ≡ true → taken_rows (built_rows (small_rows (rows_of word))).bits ≡ record { refusal = 0; rows = small_rows (rows_of word) }
