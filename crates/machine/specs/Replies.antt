-- What a call leaves behind: 01, "A reply is a number, the words done (0 for every kind but 0), and a value (kinds 1, 3, 5; else 0)", where 02's E3
-- gives an accepted interrupt words done too.
use Rattle.std.specs.Prelude.{ℕ, List}
use Rattle.device.specs.declared.registers.Registers.{Registers}
use Rattle.machine.specs.declared.replies.AfterEvent.{AfterEvent}
use Rattle.machine.specs.declared.replies.Reply.{Reply}

-- the reply's number, words done and value, the registers, TRB (which only the larger chip has), the RAM
pub record Ending : Type 0 where
  pub number : ℕ
  pub words : ℕ
  pub value : ℕ
  pub registers : Registers
  pub trb : ℕ
  pub ram : List ℕ

-- "All but 0 hand back the value 0 and registers and RAM as before the refused word or event"
abbrev pub refused_call : ℕ → Registers → ℕ → List ℕ → Ending
refused_call number r trb ram = record { number = number; words = 0; value = 0; registers = r; trb = trb; ram = ram }

-- an event other than a run and an accepted interrupt, with its value
abbrev pub finished_call : ℕ → Registers → ℕ → List ℕ → Ending
finished_call value q trb ram = record { number = 0; words = 0; value = value; registers = q; trb = trb; ram = ram }

-- 02, E3: "An accepted interrupt now makes the reply's words done 2", for the NOP and the jump to 100H that 001, 3.25, puts in
abbrev pub accepted_call : Registers → ℕ → List ℕ → Ending
accepted_call q trb ram = record { number = 0; words = 2; value = 0; registers = q; trb = trb; ram = ram }

-- what the code hands back, with the RAM as it is left
abbrev pub ending : AfterEvent → List ℕ → Ending
ending x ram = record { number = x.number; words = x.words; value = x.value; registers = x.registers; trb = x.trb; ram = ram }

-- what the desk is told of it
abbrev pub reply_of : AfterEvent → Reply
reply_of x = record { number = x.number; words = x.words; value = x.value }

-- the same where the reply stands apart from the registers and TRB: what a call in the caller's record leaves
abbrev pub ending_in_place : Reply → Registers → ℕ → List ℕ → Ending
ending_in_place x registers trb ram = record { number = x.number; words = x.words; value = x.value; registers = registers; trb = trb; ram = ram }
