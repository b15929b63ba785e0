-- Texts for an image of one cell of two bytes that holds 7, with the number, the line and the cell that the definition gives for each: all by
-- computing. They settle the readings. Assumes nothing.
use mathlib.Core.Path.{◌≡◌, refl}
use mathlib.Core.Bool.{Bool, true, ◌&&◌}
use mathlib.Core.List.{List, [], ◌∷◌}
use Prim.Native.Nat.{ℕ}
use Prim.Native.String.{String}
use lib.ListN.{get_or}
use lib.Dec.{eqb}
use Rattle.image.specs.Quoted.{quoted}
use Rattle.image.specs.Hexadecimal.{digit, byte, byte_at, bytes_of, all_digits, total}
use Rattle.image.specs.Lines.{lines}
use Rattle.image.specs.IntelHex.{ending, formed, said, record_head, data_part, data_start, intel_hex}
use Rattle.image.specs.Image.{give, missing, at, ended, unended, walk, value, cells, low_first, cell_bytes, loaded, load}

infix 68 ◌gives◌line◌and◌
record Case : Type 0 where
  text : String
  number : ℕ
  line : ℕ
  cell : ℕ

◌gives◌line◌and◌ : String → ℕ → ℕ → ℕ → Case
t gives n line l and c = record { text = t; number = n; line = l; cell = c }

holds : Case → Bool
unfolding quoted
holds k =
    let r = load intel_hex 2 1 (quoted k.text) (7 ∷ []) in
    eqb r.number k.number && (eqb r.line k.line && eqb (get_or r.image 0 0) k.cell)

all_hold : List Case → Bool
all_hold [] = true
all_hold (k ∷ ks) = holds k && all_hold ks

cases : List Case
unfolding ◌gives◌line◌and◌
cases =
    ":020000003412B8\n:00000001FF\n" gives 0 line 2 and 0x1234
    ∷ ":020000003412b8\r\n:00000001ff\r\n" gives 0 line 2 and 0x1234
    -- in any order, byte by byte; the end record's address is not looked at
    ∷ ":0100010012EC\n:0100000034CB\n:00123401B9\n" gives 0 line 3 and 0x1234
    -- a data record without data gives no address
    ∷ ":00FFFF0002\n:020000003412B8\n:00000001FF\n" gives 0 line 3 and 0x1234
    -- a cell too wide for the chip is loaded as it is
    ∷ ":02000000FFFF00\n:00000001FF\n" gives 0 line 2 and 0xFFFF
    -- a last line without its ending, a blank line, a carriage return too many or alone, a blank
    ∷ ":020000003412B8\n:00000001FF" gives 12 line 2 and 7
    ∷ "\n:020000003412B8\n:00000001FF\n" gives 12 line 1 and 7
    ∷ ":020000003412B8\r\r\n:00000001FF\n" gives 12 line 1 and 7
    ∷ ":020000003412B8\r:00000001FF\r" gives 12 line 1 and 7
    ∷ ":020000003412B8 \n:00000001FF\n" gives 12 line 1 and 7
    -- an end record with data, before its check byte; a length that is not the line's; a character that is no digit
    ∷ ":020000003412B8\n:0100000100FF\n" gives 12 line 2 and 7
    ∷ ":030000003412B7\n:00000001FF\n" gives 12 line 1 and 7
    ∷ ":02000000341GB9\n:00000001FF\n" gives 12 line 1 and 7
    ∷ ":020000003412BG\n:00000001FF\n" gives 12 line 1 and 7
    ∷ ":020000003412Bé\n:00000001FF\n" gives 12 line 1 and 7
    -- check bytes, also the end record's; before the type and the address
    ∷ ":020000003412B9\n:00000001FF\n" gives 13 line 1 and 7
    ∷ ":020000003412B8\n:00000001FE\n" gives 13 line 2 and 7
    ∷ ":020000040000FB\n" gives 13 line 1 and 7
    ∷ ":02FFFF003412BB\n" gives 13 line 1 and 7
    ∷ ":020000040000FA\n" gives 14 line 1 and 7
    -- given twice, outside as a whole or in part; the first faulty record decides
    ∷ ":020000003412B8\n:0100000034CB\n:00000001FF\n" gives 15 line 2 and 7
    ∷ ":020000003412B8\n:0100020034C9\n:00000001FF\n" gives 15 line 2 and 7
    ∷ ":020001003412B7\n:020000040000FB\n" gives 15 line 1 and 7
    ∷ ":01FFFF0034CD\n:00000001FF\n" gives 15 line 1 and 7
    -- missing, before text after the end record; no text at all
    ∷ ":0100000034CB\n:00000001FF\n\n" gives 15 line 2 and 7
    ∷ ":0100000034CB\n" gives 15 line 1 and 7
    ∷ ":00000001FF\n:020000003412B8\n" gives 15 line 1 and 7
    ∷ "" gives 15 line 0 and 7
    -- no end record; text after it, whatever it is
    ∷ ":020000003412B8\n" gives 16 line 1 and 7
    ∷ ":020000003412B8\n:00000001FF\n\n" gives 16 line 3 and 7
    ∷ ":020000003412B8\n:00000001FF\n:00000001FF\n" gives 16 line 3 and 7
    ∷ ":020000003412B8\n:00000001FF\nx" gives 16 line 3 and 7
    ∷ []

hold : all_hold cases ≡ true
unfolding cases all_hold holds quoted ◌gives◌line◌and◌ load walk lines intel_hex record_head said give missing ended unended value cells formed ending
    all_digits total bytes_of byte_at byte digit data_part
hold = refl

-- cells of four bytes, and of two one after the other, low byte first
four : load intel_hex 4 1 (quoted ":0400000078563412E8\n:00000001FF\n") (7 ∷ []) ≡ loaded (at 2 0) (0x12345678 ∷ [])
unfolding quoted load walk lines intel_hex record_head said give missing ended unended value cells formed ending all_digits total bytes_of byte_at byte
    digit data_part
four = refl

two : load intel_hex 2 2 (quoted ":0400000078563412E8\n:00000001FF\n") (7 ∷ 8 ∷ []) ≡ loaded (at 2 0) (0x5678 ∷ 0x1234 ∷ [])
unfolding quoted load walk lines intel_hex record_head said give missing ended unended value cells formed ending all_digits total bytes_of byte_at byte
    digit data_part
two = refl

-- and back: the bytes of cells, low byte first
bytes : (cell_bytes 2 (0x5678 ∷ 0x1234 ∷ []) ≡ 0x78 ∷ 0x56 ∷ 0x34 ∷ 0x12 ∷ []) × (cell_bytes 4 (0x12345678 ∷ []) ≡ 0x78 ∷ 0x56 ∷ 0x34 ∷ 0x12 ∷ [])
unfolding cell_bytes low_first
bytes = (refl, refl)

-- an image of the wrong length, before the text
short : load intel_hex 2 1 (quoted "x") (7 ∷ 8 ∷ []) ≡ loaded (at 0 1) (7 ∷ 8 ∷ [])
unfolding quoted load
short = refl

-- the part of a data record, of an end record and of a refused one, and where it begins
part : (data_part (quoted ":020000003412B8\r\n") ≡ quoted "3412") × (data_start (quoted ":020000003412B8\r\n") ≡ 9)
    × (data_part (quoted ":00000001FF\n") ≡ []) × (data_part (quoted ":020000003412B9\n") ≡ []) × (data_start (quoted ":020000003412B9\n") ≡ 0)
unfolding quoted record_head said formed ending all_digits total bytes_of byte_at byte digit data_part data_start
part = (refl, refl, refl, refl, refl)
