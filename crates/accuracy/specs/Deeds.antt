-- What is done while calls are made: each word that finishes, with the registers that it finds, and each other event that is answered 0.
-- "A word counts each time it finishes; a refused one neither adds nor counts."
use Rattle.std.specs.Prelude.{ℕ, zero, suc, Bool, cond, ◌&&◌, List, [], ◌∷◌, ◌++◌, ◌==◌}
use Rattle.device.specs.Device.{chip}
use Rattle.device.specs.Lent.{word_at}
use Rattle.device.specs.Registers.{registers_fit}
use Rattle.device.specs.declared.registers.Registers.{Registers}
use Rattle.word.specs.Word.{taken_apart}
use Rattle.word.specs.declared.Word.{Word}
use Rattle.words.specs.Word.{word_done}
use Rattle.machine.specs.Replies.{Ending}
use Rattle.machine.specs.Events.{lent_fit, event_done}
use Rattle.events.specs.Events.{allowed}

-- one call: what is lent for it, and the event
pub record Call : Type 0 where
  pub program : List ℕ
  pub rom : List ℕ
  pub ram : List ℕ
  pub kind : ℕ
  pub value : ℕ

-- what `machine::event` is proved to leave
abbrev pub ended : Bool → Registers → ℕ → Call → Ending
ended large r trb c = event_done large r trb c.program c.rom c.ram c.kind c.value

-- the registers after all calls: they alone, and TRB of the larger chip, go from call to call
unfoldable pub after : Bool → Registers → ℕ → List Call → Registers
after large r trb [] = r
after large r trb (c ∷ calls) = after large (ended large r trb c).registers (ended large r trb c).trb calls

pub data Deed : Type 0 where
  word : Word → Registers → Deed
  event : ℕ → Deed

-- the word at PC, taken apart
abbrev pub fetched : Bool → Registers → List ℕ → Word
fetched large r program = (taken_apart large (word_at program r.pc)).word

-- a word in front of those after it, if it finishes; after a refused one there are none
abbrev pub in_front : Bool → Deed → List Deed → List Deed
in_front finishes deed more = cond finishes (deed ∷ more) []

-- the words that finish in a run of n
unfoldable pub words_of : Bool → ℕ → Registers → ℕ → List ℕ → List ℕ → List ℕ → List Deed
words_of large zero r trb program rom ram = []
words_of large (suc n) r trb program rom ram =
    let o = word_done large r trb program rom ram in
    let more = words_of large n o.registers o.trb program rom o.ram in
    in_front (o.number == 0) (word (fetched large r program) r) more

-- not refused as a whole, by refusal 1, 2 or 3
abbrev pub accepted : Bool → Registers → Call → Bool
accepted large r c = lent_fit large c.program c.rom c.ram && registers_fit (chip large) r && allowed c.kind c.value

unfoldable pub call_deeds : Bool → Registers → ℕ → Call → List Deed
call_deeds large r trb c =
    cond (c.kind == 0)
    (cond (accepted large r c) (words_of large c.value r trb c.program c.rom c.ram) [])
    (cond ((ended large r trb c).number == 0) (event c.kind ∷ []) [])

unfoldable pub deeds : Bool → Registers → ℕ → List Call → List Deed
deeds large r trb [] = []
deeds large r trb (c ∷ calls) = call_deeds large r trb c ++ deeds large (ended large r trb c).registers (ended large r trb c).trb calls
