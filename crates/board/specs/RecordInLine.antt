-- A record as C holds it: its data characters by their place in the caller's line.
use Rattle.std.specs.Prelude.{ℕ, ◌+◌, ◌*◌, ◌≤◌, ◌≡◌, cond, ◌==◌, List, length, take, drop}
use Rattle.image.specs.IntelHex.{RecordHead, data_place, record_head, data_part, data_start}
use Rattle.board.specs.declared.texts.Record.{Record}

-- "the record's data characters as the very part of the caller's line": where it begins, and two characters for each byte
unfoldable pub record_in_line : List ℕ → Record
record_in_line line =
    let head = record_head line in
    record {
      number = head.number;
      kind = head.kind;
      address = head.address;
      bytes = head.length;
      offset = data_start line;
      length = 2 * head.length;
    }

-- the same by its head
abbrev pub head_in_line : RecordHead → Record
head_in_line head =
    record {
      number = head.number;
      kind = head.kind;
      address = head.address;
      bytes = head.length;
      offset = cond (head.number == 0) data_place 0;
      length = 2 * head.length;
    }

-- that many characters from that place on stand in the line, and they are the record's part
abbrev pub PartInLine : Type 0
PartInLine =
    (line : List ℕ) → ((record_in_line line).offset + (record_in_line line).length ≤ length line)
    × (take (record_in_line line).length (drop (record_in_line line).offset line) ≡ data_part line)
