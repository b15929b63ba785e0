-- Which texts are taken, what they bring, and what the machine does with a value that is too wide. 02, E10: "E1 and E2 stay with the smaller chip".
use Rattle.std.specs.Prelude.{◌≡◌, true, false, List, map, ℕ, suc, ◌*◌, ◌<◌, ◌≤◌, length, slice_index, replicate}
use Rattle.device.specs.Device.{upd77p20, word_limit, cell_limit}
use Rattle.device.specs.Lent.{word_at}
use Rattle.device.specs.Registers.{registers_fit}
use Rattle.device.specs.declared.registers.Registers.{Registers}
use Rattle.image.specs.Lines.{lines}
use Rattle.image.specs.Record.{Record}
use Rattle.image.specs.IntelHex.{intel_hex}
use Rattle.image.specs.Image.{value, load}
use Rattle.word.specs.Word.{taken_apart}
use Rattle.word.specs.declared.Word.{Word}
use Rattle.words.specs.Refusals.{unused_bits}
use Rattle.words.specs.Order.{lacks_source, reads_cell}
use Rattle.machine.specs.Replies.{refused_call}
use Rattle.machine.specs.Events.{event_done}
use Rattle.loads.specs.Given.{Closed, ExactlyOnce, bytes_for}

-- the records of a text of Intel HEX
abbrev pub records : List ℕ → List Record
records text = map intel_hex (lines text)

-- the texts that are taken are those that 02 asks for: good records, every address of the image exactly once, an end record last
abbrev pub TakenExactly : Type 0
TakenExactly =
    (width size : ℕ) (text image : List ℕ) → length image ≡ size
    → ((load intel_hex width size text image).number ≡ 0 → Closed (records text) × ExactlyOnce (width * size) (records text))
    × (Closed (records text) × ExactlyOnce (width * size) (records text) → (load intel_hex width size text image).number ≡ 0)

-- the value that a text gives for a cell: "instruction word n at addresses 4n to 4n+3 and data cell n at 2n and 2n+1, low byte first"
abbrev pub value_given : ℕ → List ℕ → ℕ → ℕ
value_given width text cell = value (bytes_for (records text) width (width * cell))

-- each cell of an image that is filled is the one that the text gives, however wide
abbrev pub InItsPlace : Type 0
InItsPlace =
    (width size : ℕ) (text image : List ℕ) → (load intel_hex width size text image).number ≡ 0
    → (cell : ℕ) → cell < size → slice_index (load intel_hex width size text image).image cell ≡ value_given width text cell

-- "A value too wide for its cell is loaded, and refused by 4 .. when it is used": a run that comes to the word
abbrev pub WordTooWide : Type 0
WordTooWide =
    (text image : List ℕ) → let loaded = load intel_hex 4 upd77p20.words text image in
    loaded.number ≡ 0 → (r : Registers) (trb : ℕ) (rom ram : List ℕ) → length rom ≡ upd77p20.cells → length ram ≡ upd77p20.ram → registers_fit upd77p20 r ≡ true
    → word_limit upd77p20 ≤ value_given 4 text r.pc.0
    → (count : ℕ) → count < 65535 → event_done false r trb loaded.image rom ram 0 (suc count) ≡ refused_call 4 r trb ram

-- a word that uses the data ROM cell, and to which no refusal that stands before 7 applies
abbrev pub Reads : Word → Type 0
Reads word = (unused_bits word ≡ false) × (lacks_source false word ≡ false) × (reads_cell word ≡ true)

-- ".. or 7"
abbrev pub CellTooWide : Type 0
CellTooWide =
    (text image : List ℕ) → let loaded = load intel_hex 2 upd77p20.cells text image in
    loaded.number ≡ 0 → (r : Registers) (trb : ℕ) (program ram : List ℕ) → length program ≡ upd77p20.words → length ram ≡ upd77p20.ram → registers_fit upd77p20 r ≡ true
    → word_at program r.pc < word_limit upd77p20 → Reads (taken_apart false (word_at program r.pc)).word
    → cell_limit upd77p20 ≤ value_given 2 text r.rp.0
    → (count : ℕ) → count < 65535 → event_done false r trb program loaded.image ram 0 (suc count) ≡ refused_call 7 r trb ram

-- and there are such texts, for a program and for a data ROM
abbrev pub TakesWide : ℕ → ℕ → ℕ → Type 0
TakesWide width size limit =
    (text : List ℕ) × ((load intel_hex width size text (replicate size 0)).number ≡ 0) × (limit ≤ value_given width text 0)
