-- Demand 2: "Taking a word apart and building it from its fields undo each other for every 23-bit word"; of the uPD77C25 for every 24-bit word.
use Rattle.std.specs.Prelude.{ℕ, ◌≤◌, ◌<◌, ◌≡◌, Bool, true, false}
use Rattle.device.specs.Device.{chip, word_limit}
use Rattle.word.specs.Fields.{op_fields}
use Rattle.word.specs.Word.{taken_apart, word_holds, built}
use Rattle.word.specs.declared.Word.{Word}
use Rattle.word.specs.declared.Word.TheVariants.{Op}

abbrev pub TakenThenBuilt : Type 0
TakenThenBuilt = (large : Bool) (w : ℕ) → w < word_limit (chip large) → built large (taken_apart large w).word ≡ record { refusal = 0; bits = w }

abbrev pub BuiltThenTaken : Type 0
BuiltThenTaken = (large : Bool) (word : Word) → word_holds large word ≡ true → taken_apart large (built large word).bits ≡ record { refusal = 0; word = word }

-- all other numbers and fields are refused, by refusals 4 and 11
abbrev pub TakenRefused : Type 0
TakenRefused = (large : Bool) (w : ℕ) → word_limit (chip large) ≤ w → taken_apart large w ≡ record { refusal = 4; word = Op (op_fields large 0) }

abbrev pub BuiltRefused : Type 0
BuiltRefused = (large : Bool) (word : Word) → word_holds large word ≡ false → built large word ≡ record { refusal = 11; bits = 0 }
