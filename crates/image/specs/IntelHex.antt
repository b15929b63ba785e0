-- A line of Intel HEX: a colon; then, two characters a byte, the length, the address high byte first, the type, the data and the check byte; then
-- the line's ending.
use Rattle.std.specs.Prelude.{Bool, cond, not, ◌&&◌, List, ℕ, ◌+◌, ◌-◌, ◌*◌, ◌%◌, length, slice_index, take, drop, ◌==◌, nat_lt, nat_le}
use Rattle.image.specs.Hexadecimal.{all_digits, byte_at, bytes_of, total}
use Rattle.image.specs.Lines.{line_feed, carriage_return}
use Rattle.image.specs.Record.{Record}

abbrev pub data_length : List ℕ → ℕ
data_length line = byte_at line 1

abbrev pub address : List ℕ → ℕ
address line = byte_at line 3 * 256 + byte_at line 5

abbrev pub record_type : List ℕ → ℕ
record_type line = byte_at line 7

-- "from its ninth character after the colon": where the data characters stand
abbrev pub data_place : ℕ
data_place = 9

-- where the line's ending begins, if it has one
unfoldable pub ending : List ℕ → ℕ
ending line = cond (slice_index line (length line - 2) == carriage_return) (length line - 2) (length line - 1)

-- what stands between the colon and the ending
abbrev pub characters : List ℕ → List ℕ
characters line = take (ending line - 1) (drop 1 line)

abbrev pub colon : ℕ
colon = 58

-- not "12 bad character or length": "An empty line, a line without its ending and an end record with data are each a bad length"; the shortest
-- line has a colon, ten characters and a line feed
unfoldable pub formed : List ℕ → Bool
formed line =
    nat_le 12 (length line) && (slice_index line 0 == colon && (slice_index line (length line - 1) == line_feed && (all_digits (characters line)
    && (ending line == (11 + 2 * data_length line) && not (record_type line == 1 && not (data_length line == 0))))))

-- not "13 bad check byte": all bytes of the record add up to 0 modulo 256
abbrev pub checked : List ℕ → Bool
checked line = (total (bytes_of (characters line)) % 256) == 0

-- what a record says of itself: its refusal or 0, its type, the address of its first byte, and how many bytes it has
pub record RecordHead : Type 0 where
  pub number : ℕ
  pub kind : ℕ
  pub address : ℕ
  pub length : ℕ

-- a refused record says nothing but its number
abbrev pub refused : ℕ → RecordHead
refused number = record { number = number; kind = 0; address = 0; length = 0 }

-- "14 record type": "record types 00 and 01 only"; else the type, the address and the length
unfoldable pub said : List ℕ → RecordHead
said line =
    cond (nat_lt 1 (record_type line)) (refused 14)
    (record { number = 0; kind = record_type line; address = address line; length = data_length line })

-- "12 bad character or length, 13 bad check byte, 14 record type .. in that order within a record"
unfoldable pub record_head : List ℕ → RecordHead
record_head line = cond (formed line) (cond (checked line) (said line) (refused 13)) (refused 12)

-- "the record's data characters": "A refused record's part is empty"
unfoldable pub data_part : List ℕ → List ℕ
data_part line = take (2 * (record_head line).length) (drop data_place line)

-- where that part begins in the line; an empty part of a refused record at the line's beginning
unfoldable pub data_start : List ℕ → ℕ
data_start line = cond ((record_head line).number == 0) data_place 0

-- the line as a record: type 01 ends the text
unfoldable pub intel_hex : List ℕ → Record
intel_hex line =
    let head = record_head line in
    record { number = head.number; last = head.kind == 1; address = head.address; bytes = bytes_of (data_part line) }
