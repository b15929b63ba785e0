-- A preset: "the 128 RAM cells, 256 bytes from address 0 in Intel HEX, low byte first".
use Rattle.std.specs.Prelude.{cond, List, ◌++◌, ℕ, length, drop, ◌==◌, nat_le}
use Rattle.device.specs.Device.{upd77p20}
use Rattle.image.specs.IntelHex.{intel_hex}
use Rattle.image.specs.Image.{cell_bytes, Loaded, load}
use Rattle.preset.specs.Written.{text_of}

-- "Loading follows E1", with the RAM as the image
abbrev pub load_preset : List ℕ → List ℕ → Loaded
load_preset text ram = load intel_hex 2 upd77p20.ram text ram

abbrev pub preset_text : List ℕ → List ℕ
preset_text ram = text_of (cell_bytes 2 ram)

-- how a text was written: 0 and its length, or the refusal and 0
pub record Writing : Type 0 where
  pub number : ℕ
  pub length : ℕ

-- what a call leaves: 0 and the text's length, or the refusal and 0, and the lent buffer
pub record Written : Type 0 where
  pub number : ℕ
  pub length : ℕ
  pub buffer : List ℕ

abbrev pub written : Writing → List ℕ → Written
written reply buffer = record { number = reply.number; length = reply.length; buffer = buffer }

abbrev pub refused : Writing
refused = record { number = 1; length = 0 }

-- a text at the beginning of a buffer: what stands behind it stays, and "a buffer shorter than the text" is refused
unfoldable pub written_to : List ℕ → List ℕ → Written
written_to buffer text =
    cond (nat_le (length text) (length buffer)) (written (record { number = 0; length = length text }) (text ++ drop (length text) buffer)) (written refused buffer)

-- "or a RAM that isn't 128 long: refusal 1 and no byte written"
unfoldable pub write_preset : List ℕ → List ℕ → Written
write_preset ram buffer = cond (length ram == upd77p20.ram) (written_to buffer (preset_text ram)) (written refused buffer)
