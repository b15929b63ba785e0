-- What a reader expects of demand 3 beside its words.
use Rattle.std.specs.Prelude.{ℕ, ◌≡◌, Bool, List, [], ◌∷◌, ◌++◌, pos, negsuc, ◌+ℤ◌}
use Rattle.numbers.specs.Signed.{signed, floor_div}
use Rattle.numbers.specs.Held.{held}
use Rattle.multiplier.specs.Product.{product}
use Rattle.device.specs.declared.registers.Registers.{Registers}
use Rattle.alu.specs.Answer.{answer}
use Rattle.stages.specs.Accumulators.{accumulator_a}
use Rattle.accuracy.specs.Exact.{Inputs}
use Rattle.accuracy.specs.Deeds.{Call, Deed, event, after, deeds}
use Rattle.accuracy.specs.Adding.{added}
use Rattle.accuracy.specs.Demand3.{Clear, Unreset, Alone, Apart}

-- where nothing is added, the answer is the start
abbrev pub NoAdds : Type 0
NoAdds = (large : Bool) (r : Registers) (trb : ℕ) (calls : List Call) → Clear r → Unreset large r trb calls → Alone large r trb calls → added (deeds large r trb calls) ≡ [] → answer (accumulator_a (after large r trb calls)) ≡ signed r.a

-- where one word adds, the answer is the start plus the product rounded down to a whole number, held
abbrev pub OneAdd : Type 0
OneAdd =
    (large : Bool) (r : Registers) (trb : ℕ) (calls : List Call) (p : Inputs) → Clear r → Unreset large r trb calls → Alone large r trb calls → Apart large r trb calls → added (deeds large r trb calls) ≡ p ∷ []
    → answer (accumulator_a (after large r trb calls)) ≡ held (negsuc 32767) (pos 32767) (signed r.a +ℤ floor_div (product p.k p.l) 32768)

-- after a reset that was answered nothing is claimed: demand 3's premise fails
abbrev pub NothingAfterReset : Type 0
NothingAfterReset = (large : Bool) (r : Registers) (trb : ℕ) (calls : List Call) (ds es : List Deed) → deeds large r trb calls ≡ ds ++ event 7 ∷ es → Unreset large r trb calls → ⊥
