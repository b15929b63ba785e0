-- What a reader asks of any call.
use Rattle.std.specs.Prelude.{ℕ, suc, ◌≡◌, Bool, true, false, List}
use Rattle.device.specs.Device.{chip}
use Rattle.device.specs.Registers.{registers_fit}
use Rattle.device.specs.declared.registers.Registers.{Registers}
use Rattle.machine.specs.Replies.{Ending, refused_call, ending}
use Rattle.events.specs.Events.{allowed}
use Rattle.machine.specs.Events.{lent_fit, event_done}
use Rattle.machine.specs.declared.replies.AfterEvent.{AfterEvent}

-- two answers that meet the contract of `event` are equal, and so is the RAM that they leave
abbrev pub OneEnding : Type 0
OneEnding =
    (large : Bool) (r : Registers) (trb : ℕ) (program rom ram : List ℕ) (kind value : ℕ) (x y : AfterEvent) (ram₁ ram₂ : List ℕ)
    → ending x ram₁ ≡ event_done large r trb program rom ram kind value → ending y ram₂ ≡ event_done large r trb program rom ram kind value → (x ≡ y) × (ram₁ ≡ ram₂)

-- "All but 0 hand back the value 0 and registers and RAM as before the refused .. event": an event other than a run, which counts no words
-- either; a run's refused word is the subject of Counting
abbrev pub Untouched : Registers → ℕ → List ℕ → Ending → Type 0
Untouched r trb ram e = (e.number ≡ 0 → ⊥) → e ≡ refused_call e.number r trb ram

abbrev pub EventRefused : Type 0
EventRefused = (large : Bool) (r : Registers) (trb : ℕ) (program rom ram : List ℕ) (kind value : ℕ) → Untouched r trb ram (event_done large r trb program rom ram (suc kind) value)

-- a call of any kind that is refused as a whole, by refusal 1, 2 or 3
abbrev pub CallRefused : Type 0
CallRefused =
    (large : Bool) (r : Registers) (trb : ℕ) (program rom ram : List ℕ) (kind value : ℕ)
    → (lent_fit large program rom ram ≡ false → event_done large r trb program rom ram kind value ≡ refused_call 1 r trb ram)
    × (lent_fit large program rom ram ≡ true → registers_fit (chip large) r ≡ false → event_done large r trb program rom ram kind value ≡ refused_call 2 r trb ram)
    × (lent_fit large program rom ram ≡ true → registers_fit (chip large) r ≡ true → allowed kind value ≡ false → event_done large r trb program rom ram kind value ≡ refused_call 3 r trb ram)

-- no kind but a run touches the RAM, or TRB
abbrev pub KeepsRam : Type 0
KeepsRam = (large : Bool) (r : Registers) (trb : ℕ) (program rom ram : List ℕ) (kind value : ℕ) → (event_done large r trb program rom ram (suc kind) value).ram ≡ ram

abbrev pub KeepsTrb : Type 0
KeepsTrb = (large : Bool) (r : Registers) (trb : ℕ) (program rom ram : List ℕ) (kind value : ℕ) → (event_done large r trb program rom ram (suc kind) value).trb ≡ trb

-- registers that fit their widths fit them after every call, so that refusal 2 is never given for what the machine did itself
abbrev pub EventFits : Type 0
EventFits =
    (large : Bool) (r : Registers) (trb : ℕ) (program rom ram : List ℕ) (kind value : ℕ) → registers_fit (chip large) r ≡ true
    → registers_fit (chip large) (event_done large r trb program rom ram kind value).registers ≡ true

-- the smaller chip has no TRB: whatever stands there is handed back, and no call looks at it
abbrev pub with_trb : ℕ → Ending → Ending
with_trb trb e = record { number = e.number; words = e.words; value = e.value; registers = e.registers; trb = trb; ram = e.ram }

abbrev pub NoTrb : Type 0
NoTrb =
    (r : Registers) (trb other : ℕ) (program rom ram : List ℕ) (kind value : ℕ)
    → event_done false r trb program rom ram kind value ≡ with_trb trb (event_done false r other program rom ram kind value)

-- 02, E10, of the larger chip: "6 never occurs on this chip", and "7 doesn't occur either": whatever the machine holds, whatever the call
abbrev pub NeverSixOrSeven : Type 0
NeverSixOrSeven =
    (r : Registers) (trb : ℕ) (program rom ram : List ℕ) (kind value : ℕ)
    → ((event_done true r trb program rom ram kind value).number ≡ 6 → ⊥) × ((event_done true r trb program rom ram kind value).number ≡ 7 → ⊥)
