-- Which endings a call can have: refused as a whole, or that of its kind.
-- Assumes nothing.
use Prim.Native.Nat.{ℕ, zero, suc}
use mathlib.Core.Path.{◌≡◌, refl}
use mathlib.Core.Bool.{Bool, true, false, cond, false≢true}
use mathlib.Core.List.{List}
use Rattle.numbers.proofs.Choices.{of-cond}
use Rattle.numbers.specs.Bits.{bits}
use Rattle.device.specs.Device.{chip}
use Rattle.device.specs.Registers.{registers_fit}
use Rattle.device.specs.declared.registers.Registers.{Registers}
use Rattle.status.specs.Status.{ei}
use Rattle.words.specs.Refusals.{stack_full}
use Rattle.machine.specs.Replies.{Ending, refused_call, finished_call, accepted_call}
use Rattle.events.specs.Host.{byte_read, host_read, host_written}
use Rattle.machine.specs.Events.{lent_fit, serial_out_ending, interrupt_ending, kind_done, event_done}
use Rattle.events.specs.Events.{allowed, serial_in, serial_out, interrupted, reset}

-- a call that is refused as a whole, or the event of its kind
pub by_tests : (P : Ending → Type 0) (large : Bool) (r : Registers) (trb : ℕ) (program rom ram : List ℕ) (kind value : ℕ)
    → ((number : ℕ) → P (refused_call (suc number) r trb ram)) → (allowed kind value ≡ true → P (kind_done large kind value r trb program rom ram)) → P (event_done large r trb program rom ram kind value)
unfolding event_done
by_tests P large r trb program rom ram kind value refused done = go (lent_fit large program rom ram) (registers_fit (chip large) r) (allowed kind value) refl
  where
    go : (s t u : Bool) → allowed kind value ≡ u → P (cond s (cond t (cond u (kind_done large kind value r trb program rom ram) (refused_call 3 r trb ram)) (refused_call 2 r trb ram)) (refused_call 1 r trb ram))
    go true true true e = done e
    go true true false e = refused 2
    go true false u e = refused 1
    go false t u e = refused 0

-- what holds of every ending that a call other than a run can have holds of the one that it has
pub record Endings (P : Ending → Type 0) (r : Registers) (trb : ℕ) (ram : List ℕ) (value : ℕ) : Type 0 where
  pub refused : (number : ℕ) → P (refused_call (suc number) r trb ram)
  pub read : P (finished_call (byte_read r) (host_read r) trb ram)
  pub written : P (finished_call 0 (host_written r value) trb ram)
  pub status : P (finished_call (bits r.sr 15 8) r trb ram)
  pub word_in : P (finished_call 0 (serial_in r value) trb ram)
  pub word_out : P (finished_call r.so (serial_out r) trb ram)
  pub taken : P (accepted_call (interrupted r) trb ram)
  pub ignored : P (finished_call 0 r trb ram)

pub by-kinds : (P : Ending → Type 0) (large : Bool) (r : Registers) (trb : ℕ) (program rom ram : List ℕ) (kind value : ℕ) → Endings P r trb ram value → (suc kind ≡ 7 → P (finished_call 0 (reset r) trb ram)) → P (event_done large r trb program rom ram (suc kind) value)
by-kinds P large r trb program rom ram kind value e on_reset = by_tests P large r trb program rom ram (suc kind) value e.refused (go kind on_reset)
  where
    go : (kind : ℕ) → (suc kind ≡ 7 → P (finished_call 0 (reset r) trb ram)) → allowed (suc kind) value ≡ true → P (kind_done large (suc kind) value r trb program rom ram)
    go zero on_reset ok = unfold kind_done in e.read
    go (suc zero) on_reset ok = unfold kind_done in e.written
    go (suc (suc zero)) on_reset ok = unfold kind_done in e.status
    go (suc (suc (suc zero))) on_reset ok = unfold kind_done in e.word_in
    go (suc (suc (suc (suc zero)))) on_reset ok = unfold kind_done serial_out_ending in of-cond P r.sorq e.word_out (e.refused 9)
    go (suc (suc (suc (suc (suc zero))))) on_reset ok = unfold kind_done interrupt_ending in of-cond P (ei r.sr) (of-cond P (stack_full large r) (e.refused 8) e.taken) e.ignored
    go (suc (suc (suc (suc (suc (suc zero)))))) on_reset ok = unfold kind_done in on_reset refl
    go (suc (suc (suc (suc (suc (suc (suc kind))))))) on_reset ok = absurd (false≢true ok)
