-- What a reader asks of a run, demand 1: "words finished earlier in that call stay done and are counted".
use Rattle.std.specs.Prelude.{ℕ, ◌+◌, ◌<◌, ◌≡◌, Bool, List, [], ◌∷◌, ◌⊎◌, length}
use Rattle.device.specs.declared.registers.Registers.{Registers}
use Rattle.words.specs.Word.{word_done}
use Rattle.machine.specs.Replies.{Ending}
use Rattle.machine.specs.Run.{ran}

-- from registers, TRB and RAM to registers, TRB and RAM by words that finish: `found` has the registers that each of them finds, which are those that
-- the one before it left
pub data Finished (large : Bool) (program rom : List ℕ) : List Registers → Registers → ℕ → List ℕ → Registers → ℕ → List ℕ → Type 0 where
  none : {r : Registers} {trb : ℕ} {ram : List ℕ} → Finished large program rom [] r trb ram r trb ram
  next : {r q : Registers} {trb after : ℕ} {ram left : List ℕ} {found : List Registers} → (word_done large r trb program rom ram).number ≡ 0
      → Finished large program rom found (word_done large r trb program rom ram).registers (word_done large r trb program rom ram).trb (word_done large r trb program rom ram).ram q after left
      → Finished large program rom (r ∷ found) r trb ram q after left

-- how a run of n words ended after so many: all are done, or the next is refused with the run's number
abbrev pub AllOrRefused : Bool → List ℕ → List ℕ → ℕ → ℕ → Ending → Type 0
AllOrRefused large program rom n done e =
    ((e.number ≡ 0) × (done ≡ n)) ⊎ ((done < n) × ((word_done large e.registers e.trb program rom e.ram).number ≡ e.number) × (e.number ≡ 0 → ⊥))

-- a run of n words, with so many counted before it
pub record Counts (large : Bool) (program rom : List ℕ) (n words : ℕ) (r : Registers) (trb : ℕ) (ram : List ℕ) (e : Ending) : Type 0 where
  pub found : List Registers
  pub finished : Finished large program rom found r trb ram e.registers e.trb e.ram
  pub counted : e.words ≡ words + length found
  pub value : e.value ≡ 0
  pub ended : AllOrRefused large program rom n (length found) e

abbrev pub RunCounts : Type 0
RunCounts = (large : Bool) (program rom : List ℕ) (n words : ℕ) (r : Registers) (trb : ℕ) (ram : List ℕ) → Counts large program rom n words r trb ram (ran large n words r trb program rom ram)

-- n + m words are n words and then m, where nothing is refused among the first
abbrev pub RunSplits : Type 0
RunSplits =
    (large : Bool) (n m words : ℕ) (r : Registers) (trb : ℕ) (program rom ram : List ℕ) →
    let first = ran large n words r trb program rom ram in
    first.number ≡ 0 → ran large (n + m) words r trb program rom ram ≡ ran large m (words + n) first.registers first.trb program rom first.ram
