-- What is promised of presets.
use Rattle.std.specs.Prelude.{◌≡◌, Result, List, ℕ, ◌+◌, ◌*◌, ◌<◌, ◌≤◌, length, take, drop}
use Rattle.numbers.specs.Every.{Every}
use Rattle.device.specs.Device.{upd77p20}
use Rattle.image.specs.IntelHex.{intel_hex}
use Rattle.image.specs.Image.{at, cells, loaded, load}
use Rattle.preset.specs.Written.{records_for, text_of}
use Rattle.preset.specs.Preset.{load_preset, preset_text, Writing, written, write_preset}
use Rattle.preset.specs.Replies.{writing_of}
use Rattle.preset.specs.Form.{WritersForm}
use Rattle.refusals.specs.declared.Refusal.{Refusal}

-- the cells of a RAM, as the chip has them
abbrev pub Ram : List ℕ → Type 0
Ram ram = (length ram ≡ upd77p20.ram) × Every (λ v. v < 65536) ram

-- "the RAM keeps every cell" when refused
abbrev pub Kept : Type 0
Kept = (text ram : List ℕ) → ((load_preset text ram).number ≡ 0 → ⊥) → (load_preset text ram).image ≡ ram

-- when taken, every cell comes from the text: any two RAMs before have the same cells after
abbrev pub AllReplaced : Type 0
AllReplaced =
    (text ram other : List ℕ) → length ram ≡ upd77p20.ram → length other ≡ upd77p20.ram → (load_preset text ram).number ≡ 0
    → load_preset text other ≡ load_preset text ram

-- "716 characters"
abbrev pub Length : Type 0
Length = (ram : List ℕ) → length ram ≡ upd77p20.ram → length (preset_text ram) ≡ 716

-- two answers that meet the writer's contract are equal, and so are the buffers that they leave
abbrev pub OneWriting : Type 0
OneWriting =
    (ram buffer : List ℕ) (x y : Writing) (a b : List ℕ) → written x a ≡ write_preset ram buffer → written y b ≡ write_preset ram buffer → (x ≡ y) × (a ≡ b)

-- and no two replies of the code say the same
abbrev pub OneReply : Type 0
OneReply = (x y : Result ℕ Refusal) → writing_of x ≡ writing_of y → x ≡ y

-- so that two replies of the code that meet the writer's contract are equal, and so are the buffers that they leave
abbrev pub OneWritten : Type 0
OneWritten =
    (ram buffer : List ℕ) (x y : Result ℕ Refusal) (a b : List ℕ)
    → written (writing_of x) a ≡ write_preset ram buffer → written (writing_of y) b ≡ write_preset ram buffer → (x ≡ y) × (a ≡ b)

-- what the writer leaves in a buffer with room for it: the text and what was behind it
abbrev pub InBuffer : Type 0
InBuffer =
    (ram buffer : List ℕ) → length ram ≡ upd77p20.ram → 716 ≤ length buffer
    → ((write_preset ram buffer).number ≡ 0) × ((write_preset ram buffer).length ≡ 716) × (take 716 (write_preset ram buffer).buffer ≡ preset_text ram)
    × (drop 716 (write_preset ram buffer).buffer ≡ drop 716 buffer)

-- "Reading back what was written gives the same cells", whatever the RAM held before; the end record in line 17 decides
abbrev pub ReadBack : Type 0
ReadBack = (ram before : List ℕ) → Ram ram → length before ≡ upd77p20.ram → load_preset (preset_text ram) before ≡ loaded (at 17 0) ram

-- the same of any image whose addresses fit a record: so many cells of so many bytes
abbrev pub ImageReadBack : Type 0
ImageReadBack =
    (width size : ℕ) (bytes before : List ℕ) → Every (λ b. b < 256) bytes → length bytes ≡ width * size → length bytes ≤ 65536 → length before ≡ size
    → load intel_hex width size (text_of bytes) before ≡ loaded (at (records_for (length bytes) + 1) 0) (cells width size bytes)

-- "writing what was read gives the same text whenever it had the writer's form": such a text is taken
abbrev pub WrittenBack : Type 0
WrittenBack =
    (text before : List ℕ) → WritersForm text → length before ≡ upd77p20.ram
    → ((load_preset text before).number ≡ 0) × (preset_text (load_preset text before).image ≡ text)

-- the texts of the writer's form are those that the writer makes, and no other
abbrev pub FormExactly : Type 0
FormExactly =
    ((ram : List ℕ) → Ram ram → WritersForm (preset_text ram)) × ((text : List ℕ) → WritersForm text → (ram : List ℕ) × Ram ram × (text ≡ preset_text ram))

-- and there is such a text, so that what is said of them is not said of nothing
abbrev pub SomeForm : Type 0
SomeForm = (text : List ℕ) × WritersForm text
