-- Demand 3 over the machine's own definitions, clause by clause in its words.
use Rattle.std.specs.Prelude.{ℕ, ◌≤◌, ◌≡◌, Bool, false, List, length}
use Rattle.alu.specs.Answer.{answer}
use Rattle.multiplier.specs.BothLeast.{BothLeast}
use Rattle.device.specs.declared.registers.Registers.{Registers}
use Rattle.stages.specs.Accumulators.{accumulator_a}
use Rattle.numbers.specs.Every.{Every}
use Rattle.accuracy.specs.Exact.{Inputs, Accurate}
use Rattle.accuracy.specs.Deeds.{Call, Deed, word, event, deeds, after}
use Rattle.accuracy.specs.Adding.{adds_m, operates_on_a, loads_a, added}

-- "Start accumulator A at a signed value with its OV1 flag 0."
abbrev pub Clear : Registers → Type 0
Clear r = r.flags.a.ov1 ≡ false

-- "Run any words and events without a reset": event 7
abbrev pub NoReset : Deed → Type 0
NoReset (word w r) = Unit
NoReset (event kind) = kind ≡ 7 → ⊥

abbrev pub Unreset : Bool → Registers → ℕ → List Call → Type 0
Unreset large r trb calls = Every NoReset (deeds large r trb calls)

-- "in which at most three words add M to A"
abbrev pub AtMostThree : Bool → Registers → ℕ → List Call → Type 0
AtMostThree large r trb calls = length (added (deeds large r trb calls)) ≤ 3

-- "and nothing else operates on A or loads it"
abbrev pub NothingElse : Deed → Type 0
NothingElse (word w r) = adds_m w ≡ false → (operates_on_a w ≡ false) × (loads_a w ≡ false)
NothingElse (event kind) = Unit

abbrev pub Alone : Bool → Registers → ℕ → List Call → Type 0
Alone large r trb calls = Every NothingElse (deeds large r trb calls)

-- "and no adding word finds both multiplier inputs at -32768."
abbrev pub NotBoth : Inputs → Type 0
NotBoth p = BothLeast p.k p.l → ⊥

abbrev pub Apart : Bool → Registers → ℕ → List Call → Type 0
Apart large r trb calls = Every NotBoth (added (deeds large r trb calls))

-- "Take A if OV1 is 0, else SGN. In 32768ths, the exact start plus exact products, held within -32768 to 32767 whole, is never below that answer, and above it by at most
-- 32767 for each word added."
abbrev pub Near : Bool → Registers → ℕ → List Call → Type 0
Near large r trb calls = Accurate r.a (added (deeds large r trb calls)) (answer (accumulator_a (after large r trb calls)))

-- for either chip, any registers, and any calls with any images, RAM, kinds and values
abbrev pub Demand3 : Type 0
Demand3 =
    (large : Bool) (r : Registers) (trb : ℕ) (calls : List Call)
    → Clear r → Unreset large r trb calls → AtMostThree large r trb calls → Alone large r trb calls → Apart large r trb calls → Near large r trb calls
