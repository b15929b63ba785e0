-- What a word leaves behind.
use Rattle.std.specs.Prelude.{ℕ, cond, List, ◌==◌}
use Rattle.device.specs.declared.registers.Registers.{Registers}
use Rattle.words.specs.declared.state.AfterWord.{AfterWord}

-- 0 or its refusal, the registers, TRB (which only the larger chip has), the RAM
pub record Outcome : Type 0 where
  pub number : ℕ
  pub registers : Registers
  pub trb : ℕ
  pub ram : List ℕ

-- "All but 0 hand back .. registers and RAM as before the refused word"
abbrev pub refused_word : ℕ → Registers → ℕ → List ℕ → Outcome
refused_word number r trb ram = record { number = number; registers = r; trb = trb; ram = ram }

-- "done"; every finished word goes through here
abbrev pub finished_word : Registers → ℕ → List ℕ → Outcome
finished_word q trb ram = record { number = 0; registers = q; trb = trb; ram = ram }

-- the finished outcome, unless there is a refusal's number: then r, trb and ram as they were
abbrev pub decided : ℕ → Registers → ℕ → List ℕ → Outcome → Outcome
decided number r trb ram finished = cond (number == 0) finished (refused_word number r trb ram)

-- what the code hands back, with the RAM as it is left
abbrev pub outcome : AfterWord → List ℕ → Outcome
outcome x ram = record { number = x.number; registers = x.state.registers; trb = x.state.trb; ram = ram }
