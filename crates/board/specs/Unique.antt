-- Each function of the library leaves one answer: two that meet its contract are equal.
use Rattle.std.specs.Prelude.{ℕ, ◌≡◌, false, List}
use Rattle.device.specs.declared.registers.Registers.{Registers}
use Rattle.word.specs.declared.Built.{Built}
use Rattle.machine.specs.Events.{event_done}
use Rattle.machine.specs.Replies.{ending_in_place}
use Rattle.image.specs.Image.{Loaded, loaded}
use Rattle.preset.specs.Preset.{written, write_preset}
use Rattle.board.specs.Held.{loading_held, writing_held}
use Rattle.board.specs.Rows.{taken_rows, built_rows}
use Rattle.board.specs.RecordInLine.{record_in_line}
use Rattle.machine.specs.declared.replies.Reply.{Reply}
use Rattle.board.specs.declared.Rows.{Rows}
use Rattle.board.specs.declared.TakenRows.{TakenRows}
use Rattle.board.specs.declared.texts.Loading.{Loading}
use Rattle.board.specs.declared.texts.Record.{Record}
use Rattle.board.specs.declared.presets.Writing.{Writing}

-- `bemulatsho_event_in_place`: the reply, the record and the RAM
abbrev pub OneReply : Type 0
OneReply =
    (r : Registers) (program rom ram : List ℕ) (kind value : ℕ) (x y : Reply) (q₁ q₂ : Registers) (ram₁ ram₂ : List ℕ)
    → ending_in_place x q₁ 0 ram₁ ≡ event_done false r 0 program rom ram kind value → ending_in_place y q₂ 0 ram₂ ≡ event_done false r 0 program rom ram kind value
    → (x ≡ y) × (q₁ ≡ q₂) × (ram₁ ≡ ram₂)

-- `bemulatsho_take_apart` and `bemulatsho_build`
abbrev pub OneTaken : Type 0
OneTaken = (w : ℕ) (x y : TakenRows) → x ≡ taken_rows w → y ≡ taken_rows w → x ≡ y

abbrev pub OneBuilt : Type 0
OneBuilt = (rows : Rows) (x y : Built) → x ≡ built_rows rows → y ≡ built_rows rows → x ≡ y

-- `bemulatsho_load_program`, `bemulatsho_load_data` and `bemulatsho_load_preset`: whatever a load is defined to leave, the reply and the image
abbrev pub OneLoad : Type 0
OneLoad = (left : Loaded) (x y : Loading) (a b : List ℕ) → loaded (loading_held x) a ≡ left → loaded (loading_held y) b ≡ left → (x ≡ y) × (a ≡ b)

-- `bemulatsho_write_preset`: the reply and the buffer
abbrev pub OneWritten : Type 0
OneWritten =
    (ram buffer : List ℕ) (x y : Writing) (a b : List ℕ)
    → written (writing_held x) a ≡ write_preset ram buffer → written (writing_held y) b ≡ write_preset ram buffer → (x ≡ y) × (a ≡ b)

-- `bemulatsho_read_record`
abbrev pub OneRecord : Type 0
OneRecord = (line : List ℕ) (x y : Record) → x ≡ record_in_line line → y ≡ record_in_line line → x ≡ y
