-- Each function of the uPD77C25's library leaves one answer: two that meet its contract are equal.
use Rattle.std.specs.Prelude.{ℕ, ◌≡◌, true, List}
use Rattle.word.specs.declared.Built.{Built}
use Rattle.machine.specs.Events.{event_done}
use Rattle.machine.specs.Replies.{ending_in_place}
use Rattle.machine.specs.declared.replies.Reply.{Reply}
use Rattle.board_77c25.specs.LargeRows.{taken_large_rows, built_large_rows}
use Rattle.board_77c25.specs.declared.LargeRegisters.{LargeRegisters}
use Rattle.board_77c25.specs.declared.LargeRows.{LargeRows}
use Rattle.board_77c25.specs.declared.TakenLargeRows.{TakenLargeRows}

-- `bemulatsho_77c25_event_in_place`: the reply, the record and the RAM
abbrev pub OneReply : Type 0
OneReply =
    (r : LargeRegisters) (program rom ram : List ℕ) (kind value : ℕ) (x y : Reply) (q₁ q₂ : LargeRegisters) (ram₁ ram₂ : List ℕ)
    → ending_in_place x q₁.registers q₁.trb ram₁ ≡ event_done true r.registers r.trb program rom ram kind value
    → ending_in_place y q₂.registers q₂.trb ram₂ ≡ event_done true r.registers r.trb program rom ram kind value
    → (x ≡ y) × (q₁ ≡ q₂) × (ram₁ ≡ ram₂)

-- `bemulatsho_77c25_take_apart` and `bemulatsho_77c25_build`
abbrev pub OneTaken : Type 0
OneTaken = (w : ℕ) (x y : TakenLargeRows) → x ≡ taken_large_rows w → y ≡ taken_large_rows w → x ≡ y

abbrev pub OneBuilt : Type 0
OneBuilt = (rows : LargeRows) (x y : Built) → x ≡ built_large_rows rows → y ≡ built_large_rows rows → x ≡ y
