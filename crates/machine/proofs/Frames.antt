-- What a reader asks of a call, shown of the definitions.
-- Assumes nothing.
use Prim.Native.Nat.{ℕ}
use native.Mathlib.Omega.{arith}
use mathlib.Core.Path.{◌≡◌, refl, sym, ap, ◌∙◌}
use mathlib.Core.Bool.{Bool, true, false, cond}
use mathlib.Core.List.{List}
use Rattle.numbers.specs.Bits.{bits}
use Rattle.device.specs.declared.registers.Registers.{Registers}
use Rattle.status.specs.Status.{drs, drc, with_drs, without_drs, without_rqm}
use Rattle.machine.proofs.Endings.{by_tests, by-kinds}
use Rattle.machine.specs.Replies.{finished_call}
use Rattle.events.specs.Host.{status_accessed, byte_read, host_read, host_written}
use Rattle.machine.specs.Events.{kind_done, event_done}
use Rattle.events.specs.Events.{reset}
use Rattle.machine.specs.Promises.{Untouched, EventRefused, KeepsRam, KeepsTrb}
use Rattle.machine.specs.HostPort.{HostOnly, ReadsOnly, WritesOnly, SeesDrAndSr, SeesSr}
use Rattle.machine.specs.Resetting.{Reset, EventResets}

-- ---- a refused event changes nothing

pub event-refused : EventRefused
event-refused large r trb program rom ram kind value =
    by-kinds (Untouched r trb ram) large r trb program rom ram kind value
    (record { refused = λ number h. refl; read = done; written = done; status = done; word_in = done; word_out = done; taken = done; ignored = done }) (λ e. done)
  where
    done : {w v : ℕ} {q : Registers} → Untouched r trb ram (record { number = 0; words = w; value = v; registers = q; trb = trb; ram = ram })
    done h = absurd (h refl)

-- ---- the host's port

-- bits 14 and 13, and 11 to 0
abbrev Kept : ℕ → ℕ → Type 0
Kept sr after = (bits after 14 13 ≡ bits sr 14 13) × (bits after 11 0 ≡ bits sr 11 0)

without-rqm : (sr : ℕ) → Kept sr (without_rqm sr)
without-rqm sr = (omega arith, omega arith)

without-drs : (sr : ℕ) → Kept sr (without_drs sr)
without-drs sr = (omega arith, omega arith)

with-drs : (sr : ℕ) → Kept sr (with_drs sr)
with-drs sr = (omega arith, omega arith)

accessed : (sr : ℕ) → Kept sr (status_accessed sr)
unfolding status_accessed
accessed sr = go (drc sr) (drs sr)
  where
    go : (s t : Bool) → Kept sr (cond s (without_rqm sr) (cond t (without_drs (without_rqm sr)) (with_drs sr)))
    go true t = without-rqm sr
    go false true = ((without-drs (without_rqm sr)).0 ∙ (without-rqm sr).0, (without-drs (without_rqm sr)).1 ∙ (without-rqm sr).1)
    go false false = with-drs sr

read_only : (r : Registers) → HostOnly r (host_read r)
read_only r = record { others = refl; middle = (accessed r.sr).0; low = (accessed r.sr).1 }

write-only : (r : Registers) (byte : ℕ) → HostOnly r (host_written r byte)
write-only r byte = record { others = refl; middle = (accessed r.sr).0; low = (accessed r.sr).1 }

-- an access that is refused changes nothing at all
nothing : (r : Registers) → HostOnly r r
nothing r = record { others = refl; middle = refl; low = refl }

pub reads_only : ReadsOnly
unfolding kind_done
reads_only large r trb program rom ram value = by_tests (λ e. HostOnly r e.registers) large r trb program rom ram 1 value (λ n. nothing r) (λ ok. read_only r)

pub writes-only : WritesOnly
unfolding kind_done
writes-only large r trb program rom ram value = by_tests (λ e. HostOnly r e.registers) large r trb program rom ram 2 value (λ n. nothing r) (λ ok. write-only r value)

-- no event but a run touches the RAM, or TRB
pub keeps-ram : KeepsRam
keeps-ram large r trb program rom ram kind value =
    by-kinds (λ e. e.ram ≡ ram) large r trb program rom ram kind value
    (record { refused = λ number. refl; read = refl; written = refl; status = refl; word_in = refl; word_out = refl; taken = refl; ignored = refl }) (λ e. refl)

pub keeps-trb : KeepsTrb
keeps-trb large r trb program rom ram kind value =
    by-kinds (λ e. e.trb ≡ trb) large r trb program rom ram kind value
    (record { refused = λ number. refl; read = refl; written = refl; status = refl; word_in = refl; word_out = refl; taken = refl; ignored = refl }) (λ e. refl)

-- an answered read is a read
pub host-read-done : (large : Bool) (r : Registers) (trb : ℕ) (program rom ram : List ℕ) (value : ℕ) → (event_done large r trb program rom ram 1 value).number ≡ 0 → event_done large r trb program rom ram 1 value ≡ finished_call (byte_read r) (host_read r) trb ram
unfolding kind_done
host-read-done large r trb program rom ram value =
    by_tests (λ e. e.number ≡ 0 → e ≡ finished_call (byte_read r) (host_read r) trb ram) large r trb program rom ram 1 value (λ n e. absurd (omega arith)) (λ ok e. refl)

-- an answered read hands the byte of DR and SR, an answered look at the status SR's high byte
pub byte-handed : (large : Bool) (r : Registers) (trb : ℕ) (program rom ram : List ℕ) (value : ℕ) → (event_done large r trb program rom ram 1 value).number ≡ 0 → (event_done large r trb program rom ram 1 value).value ≡ byte_read r
byte-handed large r trb program rom ram value e = ap (λ x. x.value) (host-read-done large r trb program rom ram value e)

pub status-handed : (large : Bool) (r : Registers) (trb : ℕ) (program rom ram : List ℕ) (value : ℕ) → (event_done large r trb program rom ram 3 value).number ≡ 0 → (event_done large r trb program rom ram 3 value).value ≡ bits r.sr 15 8
unfolding kind_done
status-handed large r trb program rom ram value = by_tests (λ e. e.number ≡ 0 → e.value ≡ bits r.sr 15 8) large r trb program rom ram 3 value (λ n e. absurd (omega arith)) (λ ok e. refl)

same_byte : (r s : Registers) → r.dr ≡ s.dr → r.sr ≡ s.sr → byte_read r ≡ byte_read s
unfolding byte_read
same_byte r s e₁ e₂ = rw (e₁, e₂)

pub sees-dr-and-sr : SeesDrAndSr
sees-dr-and-sr r s d t large₁ large₂ trb₁ trb₂ program₁ rom₁ ram₁ program₂ rom₂ ram₂ value₁ value₂ e₁ e₂ =
    byte-handed large₁ r trb₁ program₁ rom₁ ram₁ value₁ e₁ ∙ same_byte r s d t ∙ sym (byte-handed large₂ s trb₂ program₂ rom₂ ram₂ value₂ e₂)

pub sees-sr : SeesSr
sees-sr r s t large₁ large₂ trb₁ trb₂ program₁ rom₁ ram₁ program₂ rom₂ ram₂ value₁ value₂ e₁ e₂ =
    status-handed large₁ r trb₁ program₁ rom₁ ram₁ value₁ e₁ ∙ ap (λ x. bits x 15 8) t ∙ sym (status-handed large₂ s trb₂ program₂ rom₂ ram₂ value₂ e₂)

-- ---- reset

resets : (r : Registers) → Reset r (reset r)
unfolding reset
resets r =
    record {
      pc = refl;
      depth = refl;
      flags-a = refl;
      flags-b = refl;
      sr = refl;
      sorq = refl;
      siack = refl;
      soack = refl;
      stack = (refl, refl, refl, refl);
      accumulators = (refl, refl);
      inputs = (refl, refl);
      others = (refl, refl, refl, refl);
      pointers = (refl, refl);
    }

pub event-resets : EventResets
unfolding kind_done
event-resets large r trb program rom ram value =
    by_tests (λ e. e.number ≡ 0 → Reset r e.registers × (e.trb ≡ trb)) large r trb program rom ram 7 value (λ n e. absurd (omega arith)) (λ ok e. (resets r, refl))
