-- What a reader asks of one word.
use Rattle.std.specs.Prelude.{ℕ, ◌≡◌, Bool, true, false, List}
use Rattle.device.specs.Device.{chip}
use Rattle.device.specs.Registers.{registers_fit}
use Rattle.device.specs.declared.registers.Registers.{Registers}
use Rattle.words.specs.Outcomes.{Outcome, outcome}
use Rattle.words.specs.Word.{word_done}
use Rattle.words.specs.declared.state.AfterWord.{AfterWord}

-- "All but 0 hand back .. registers and RAM as before the refused word", and TRB with them
abbrev pub Unchanged : Registers → ℕ → List ℕ → Outcome → Type 0
Unchanged r trb ram o = (o.registers ≡ r) × (o.trb ≡ trb) × (o.ram ≡ ram)

abbrev pub WordRefused : Type 0
WordRefused =
    (large : Bool) (r : Registers) (trb : ℕ) (program rom ram : List ℕ) → ((word_done large r trb program rom ram).number ≡ 0 → ⊥)
    → Unchanged r trb ram (word_done large r trb program rom ram)

-- registers that fit their widths (refusal 2) fit them after every word
abbrev pub WordFits : Type 0
WordFits =
    (large : Bool) (r : Registers) (trb : ℕ) (program rom ram : List ℕ) → registers_fit (chip large) r ≡ true
    → registers_fit (chip large) (word_done large r trb program rom ram).registers ≡ true

-- two answers that meet the contract of `one_word` are equal, and so is the RAM that they leave
abbrev pub OneOutcome : Type 0
OneOutcome =
    (large : Bool) (r : Registers) (trb : ℕ) (program rom ram : List ℕ) (x y : AfterWord) (ram₁ ram₂ : List ℕ)
    → outcome x ram₁ ≡ word_done large r trb program rom ram → outcome y ram₂ ≡ word_done large r trb program rom ram → (x ≡ y) × (ram₁ ≡ ram₂)

-- the smaller chip has no TRB: what stands there is never changed, and no word looks at it
abbrev pub with_trb : ℕ → Outcome → Outcome
with_trb trb o = record { number = o.number; registers = o.registers; trb = trb; ram = o.ram }

abbrev pub NoTrb : Type 0
NoTrb = (r : Registers) (trb other : ℕ) (program rom ram : List ℕ) → word_done false r trb program rom ram ≡ with_trb trb (word_done false r other program rom ram)
