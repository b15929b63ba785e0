-- What a reader asks of the host's port: 01, "A host access changes DR, RQM and DRS at most", and what the host can see.
use Rattle.std.specs.Prelude.{ℕ, ◌≡◌, Bool, List}
use Rattle.numbers.specs.Bits.{bits}
use Rattle.device.specs.Set.{set_dr, set_sr}
use Rattle.device.specs.declared.registers.Registers.{Registers}
use Rattle.machine.specs.Events.{event_done}

-- "DR, RQM and DRS at most": the other registers, and SR's bits 14, 13 and 11 to 0, are as they were
pub record HostOnly (r q : Registers) : Type 0 where
  pub others : q ≡ set_sr (set_dr r q.dr) q.sr
  pub middle : bits q.sr 14 13 ≡ bits r.sr 14 13
  pub low : bits q.sr 11 0 ≡ bits r.sr 11 0

abbrev pub ReadsOnly : Type 0
ReadsOnly = (large : Bool) (r : Registers) (trb : ℕ) (program rom ram : List ℕ) (value : ℕ) → HostOnly r (event_done large r trb program rom ram 1 value).registers

abbrev pub WritesOnly : Type 0
WritesOnly = (large : Bool) (r : Registers) (trb : ℕ) (program rom ram : List ℕ) (value : ℕ) → HostOnly r (event_done large r trb program rom ram 2 value).registers

-- two calls with an event of one kind, on two machines of either chip with any images, TRB and RAM, that are both answered 0, hand the same value
abbrev pub HandAlike : ℕ → Registers → Registers → Type 0
HandAlike kind r s =
    (large₁ large₂ : Bool) (trb₁ trb₂ : ℕ) (program₁ rom₁ ram₁ program₂ rom₂ ram₂ : List ℕ) (value₁ value₂ : ℕ)
    → (event_done large₁ r trb₁ program₁ rom₁ ram₁ kind value₁).number ≡ 0 → (event_done large₂ s trb₂ program₂ rom₂ ram₂ kind value₂).number ≡ 0
    → (event_done large₁ r trb₁ program₁ rom₁ ram₁ kind value₁).value ≡ (event_done large₂ s trb₂ program₂ rom₂ ram₂ kind value₂).value

-- "Two machines that agree on DR and SR give the host the same byte wherever both calls are answered 0"; its look at the status needs SR alone
abbrev pub SeesDrAndSr : Type 0
SeesDrAndSr = (r s : Registers) → r.dr ≡ s.dr → r.sr ≡ s.sr → HandAlike 1 r s

abbrev pub SeesSr : Type 0
SeesSr = (r s : Registers) → r.sr ≡ s.sr → HandAlike 3 r s
