-- The text that is written of bytes: records of sixteen, the last of fewer where there are no more, and the end record.
use Rattle.std.specs.Prelude.{cond, List, [], ◌∷◌, ◌++◌, ℕ, zero, suc, ◌+◌, ◌-◌, ◌/◌, ◌%◌, length, take, drop, nat_lt}
use Rattle.image.specs.Quoted.{quoted}
use Rattle.image.specs.Hexadecimal.{total}
use Rattle.image.specs.Lines.{line_feed, joined}
use Rattle.image.specs.IntelHex.{colon}

-- "in capitals": a digit below 16
unfoldable pub capital : ℕ → ℕ
capital digit = cond (nat_lt digit 10) (48 + digit) (55 + digit)

-- bytes, two digits each, the high one first
unfoldable pub spelled : List ℕ → List ℕ
spelled [] = []
spelled (b ∷ bs) = capital (b / 16) ∷ capital (b % 16) ∷ spelled bs

-- the byte that makes the bytes of a record add up to 0 modulo 256
abbrev pub check_byte : List ℕ → ℕ
check_byte bs = (256 - total bs % 256) % 256

-- length, address high byte first, type and data
abbrev pub content : ℕ → ℕ → List ℕ → List ℕ
content kind address bs = length bs ∷ address / 256 ∷ address % 256 ∷ kind ∷ bs

unfoldable pub record_line : ℕ → ℕ → List ℕ → List ℕ
record_line kind address bs =
    let said = content kind address bs in
    colon ∷ spelled (said ++ check_byte said ∷ []) ++ line_feed ∷ []

-- "and then `:00000001FF`"
unfoldable pub end_line : List ℕ
end_line = quoted ":00000001FF\n"

-- so many "records of sixteen bytes", from an address on, and the end record
unfoldable pub record_lines : ℕ → ℕ → List ℕ → List (List ℕ)
record_lines zero address bs = end_line ∷ []
record_lines (suc records) address bs = record_line 0 address (take 16 bs) ∷ record_lines records (address + 16) (drop 16 bs)

-- the records that hold so many bytes
abbrev pub records_for : ℕ → ℕ
records_for bytes = (bytes + 15) / 16

unfoldable pub text_of : List ℕ → List ℕ
text_of bs = joined (record_lines (records_for (length bs)) 0 bs)
