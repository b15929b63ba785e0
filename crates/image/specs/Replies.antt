-- The code's replies in the paper's numbers: what is done is 0, a refusal has its own number. No two replies say the same.
use Rattle.std.specs.Prelude.{ℕ, ◌%◌, cond, ◌==◌, List, map, Option, Some, None, Result, Ok, Err}
use Rattle.refusals.specs.Refusals.{number_of}
use Rattle.refusals.specs.declared.Refusal.{Refusal}
use Rattle.refusals.specs.declared.Refusal.TheVariants.{NoSuchRecordType}
use Rattle.image.specs.Record.{Record}
use Rattle.image.specs.IntelHex.{RecordHead, refused}
use Rattle.image.specs.Image.{Given, given, give, Loading, at}
use Rattle.image.specs.declared.record.RecordHead.{RecordHead as Head}
use Rattle.image.specs.declared.record.RecordType.{RecordType}
use Rattle.image.specs.declared.record.RecordType.TheVariants.{Data, End}
use Rattle.image.specs.declared.text.Fault.{Fault}

-- 16 for no digit
abbrev pub digit_of : Option ℕ → ℕ
digit_of (Some d) = d
digit_of None = 16

-- "record types 00 and 01"
abbrev pub type_of : RecordType → ℕ
type_of Data = 0
type_of End = 1

abbrev pub type_read : ℕ → Result RecordType Refusal
type_read n = cond (n == 0) (Ok Data) (cond (n == 1) (Ok End) (Err NoSuchRecordType))

abbrev pub head_of : Result Head Refusal → RecordHead
head_of (Ok head) = record { number = 0; kind = type_of head.kind; address = head.address; length = head.length }
head_of (Err refusal) = refused (number_of refusal)

abbrev pub number_given : Result Unit Refusal → ℕ
number_given (Ok done) = 0
number_given (Err refusal) = number_of refusal

abbrev pub loading_of : Result ℕ Fault → Loading
loading_of (Ok line) = at line 0
loading_of (Err fault) = at fault.line (number_of fault.refusal)

-- the byte given for an address, below 256, which stands where none was
abbrev pub mark : Option ℕ → ℕ
mark (Some byte) = byte % 256
mark None = 256

abbrev pub marks : List (Option ℕ) → List ℕ
marks = map mark

-- what a record that is put at its addresses leaves: its own refusal comes before 15, and an end record gives nothing
unfoldable pub put : Record → List ℕ → Given
put r g = cond (r.number == 0) (cond r.last (given 0 g) (give r.address r.bytes g)) (given r.number g)

abbrev pub number_put : Result RecordType Refusal → ℕ
number_put (Ok kind) = 0
number_put (Err refusal) = number_of refusal
