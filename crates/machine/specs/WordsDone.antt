-- What a reader asks of the words done of a reply. 02, E3: "An accepted interrupt now makes the reply's words done 2; an ignored one stays 0", and
-- "Event 0 still counts only fetched words".
use Rattle.std.specs.Prelude.{ℕ, suc, ◌≡◌, Bool, true, false, cond, ◌&&◌, List, ◌==◌, length}
use Rattle.device.specs.Device.{chip}
use Rattle.device.specs.Registers.{registers_fit}
use Rattle.device.specs.declared.registers.Registers.{Registers}
use Rattle.status.specs.Status.{ei}
use Rattle.words.specs.Refusals.{stack_full}
use Rattle.events.specs.Events.{interrupted}
use Rattle.machine.specs.Replies.{Ending}
use Rattle.machine.specs.Counting.{Finished}
use Rattle.machine.specs.Events.{lent_fit, event_done}

-- an interrupt edge, answered 0, and EI was 1: with EI 0 it is ignored, with a full stack refused
abbrev pub interrupt_accepted : ℕ → Registers → Ending → Bool
interrupt_accepted kind r e = kind == 6 && e.number == 0 && ei r.sr

-- every kind but 0: an accepted interrupt counts 2, all else none
abbrev pub CountsInterrupts : Type 0
CountsInterrupts =
    (large : Bool) (r : Registers) (trb : ℕ) (program rom ram : List ℕ) (kind value : ℕ)
    → (event_done large r trb program rom ram (suc kind) value).words ≡ cond (interrupt_accepted (suc kind) r (event_done large r trb program rom ram (suc kind) value)) 2 0

-- the three answers to an edge, each with number, words done and value, wherever lengths and registers fit: ignored, refused and accepted
abbrev pub InterruptAnswers : Type 0
InterruptAnswers =
    (large : Bool) (r : Registers) (trb : ℕ) (program rom ram : List ℕ) → lent_fit large program rom ram ≡ true → registers_fit (chip large) r ≡ true
    → (ei r.sr ≡ false → event_done large r trb program rom ram 6 0 ≡ record { number = 0; words = 0; value = 0; registers = r; trb = trb; ram = ram })
    × (ei r.sr ≡ true → stack_full large r ≡ true → event_done large r trb program rom ram 6 0 ≡ record { number = 9; words = 0; value = 0; registers = r; trb = trb; ram = ram })
    × (ei r.sr ≡ true → stack_full large r ≡ false → event_done large r trb program rom ram 6 0 ≡ record { number = 0; words = 2; value = 0; registers = interrupted r; trb = trb; ram = ram })

-- kind 0: the words that finish one after another, each at PC of the program lent, from what was lent to what the call leaves, and no others
pub record Fetched (large : Bool) (program rom : List ℕ) (r : Registers) (trb : ℕ) (ram : List ℕ) (e : Ending) : Type 0 where
  pub found : List Registers
  pub finished : Finished large program rom found r trb ram e.registers e.trb e.ram
  pub counted : e.words ≡ length found

abbrev pub CountsFetched : Type 0
CountsFetched = (large : Bool) (r : Registers) (trb : ℕ) (program rom ram : List ℕ) (value : ℕ) → Fetched large program rom r trb ram (event_done large r trb program rom ram 0 value)
