-- One word: fetched at PC, taken apart, refused or done.
use Rattle.std.specs.Prelude.{ℕ, Bool, true, false, cond, List, ◌==◌}
use Rattle.device.specs.declared.registers.Registers.{Registers}
use Rattle.word.specs.Word.{taken_apart}
use Rattle.word.specs.declared.Word.{Word}
use Rattle.word.specs.declared.Word.TheVariants.{Op, Rt, Jp, JpCode, Ldi}
use Rattle.device.specs.Lent.{word_at}
use Rattle.words.specs.Outcomes.{Outcome, refused_word}
use Rattle.words.specs.Operation.{op_word}
use Rattle.words.specs.Jump.{jp_word}
use Rattle.words.specs.Load.{ldi_word}

-- by the row of the word
abbrev pub row_done : Bool → Registers → ℕ → Word → List ℕ → List ℕ → Outcome
row_done large r trb (Op f) ram rom = op_word large false r trb f ram rom
row_done large r trb (Rt f) ram rom = op_word large true r trb f ram rom
row_done large r trb (Jp f) ram rom = jp_word large r trb (Jp f) ram
row_done large r trb (JpCode f) ram rom = jp_word large r trb (JpCode f) ram
row_done large r trb (Ldi f) ram rom = ldi_word large r trb f ram rom

-- refusal 4: "fetched word 2^23 or more" is what the taker refuses
unfoldable pub fetched_done : Bool → Registers → ℕ → ℕ → List ℕ → List ℕ → Outcome
fetched_done large r trb w ram rom =
    cond ((taken_apart large w).refusal == 0) (row_done large r trb (taken_apart large w).word ram rom) (refused_word (taken_apart large w).refusal r trb ram)

unfoldable pub word_done : Bool → Registers → ℕ → List ℕ → List ℕ → List ℕ → Outcome
word_done large r trb program rom ram = fetched_done large r trb (word_at program r.pc) ram rom
