-- That the list of deeds is not invented: its words are the machine's own steps, and are as many as the replies count.
use Rattle.std.specs.Prelude.{ℕ, suc, ◌+◌, ◌*◌, ◌≡◌, Bool, cond, List, [], ◌∷◌}
use Rattle.device.specs.declared.registers.Registers.{Registers}
use Rattle.machine.specs.Counting.{Finished}
use Rattle.machine.specs.WordsDone.{interrupt_accepted}
use Rattle.accuracy.specs.Deeds.{Call, ended, Deed, word, event, fetched, call_deeds, deeds}

-- the words at PC of the registers that each of them finds
abbrev pub word_deeds : Bool → List ℕ → List Registers → List Deed
word_deeds large program [] = []
word_deeds large program (r ∷ found) = word (fetched large r program) r ∷ word_deeds large program found

-- the deeds of a run are words that finish one after another, from what was lent to what the call leaves
pub record RunListed (large : Bool) (r : Registers) (trb : ℕ) (c : Call) : Type 0 where
  pub found : List Registers
  pub listed : call_deeds large r trb c ≡ word_deeds large c.program found
  pub finished : Finished large c.program c.rom found r trb c.ram (ended large r trb c).registers (ended large r trb c).trb (ended large r trb c).ram

abbrev pub Listed : Type 0
Listed = (large : Bool) (r : Registers) (trb : ℕ) (c : Call) → c.kind ≡ 0 → RunListed large r trb c

-- the words done of all replies, and the words of a list
unfoldable pub words_done : Bool → Registers → ℕ → List Call → ℕ
words_done large r trb [] = 0
words_done large r trb (c ∷ calls) = (ended large r trb c).words + words_done large (ended large r trb c).registers (ended large r trb c).trb calls

unfoldable pub words_in : List Deed → ℕ
words_in [] = 0
words_in (word w r ∷ ds) = suc (words_in ds)
words_in (event kind ∷ ds) = words_in ds

-- the accepted interrupts among the calls
unfoldable pub interrupts_in : Bool → Registers → ℕ → List Call → ℕ
interrupts_in large r trb [] = 0
interrupts_in large r trb (c ∷ calls) = cond (interrupt_accepted c.kind r (ended large r trb c)) 1 0 + interrupts_in large (ended large r trb c).registers (ended large r trb c).trb calls

-- 02, E3: the words of the list, and 2 for each accepted interrupt
abbrev pub AsManyAsCounted : Type 0
AsManyAsCounted = (large : Bool) (r : Registers) (trb : ℕ) (calls : List Call) → words_done large r trb calls ≡ words_in (deeds large r trb calls) + 2 * interrupts_in large r trb calls
