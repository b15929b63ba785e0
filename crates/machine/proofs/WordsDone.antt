-- The words done of a reply are those of the run, the two of an accepted interrupt, or none.
-- Assumes nothing.
use Prim.Native.Nat.{ℕ, zero, suc}
use native.Mathlib.Omega.{arith}
use mathlib.Core.Path.{◌≡◌, refl}
use mathlib.Core.Bool.{Bool, true, false, cond, ◌&&◌, false≢true}
use mathlib.Core.List.{List, []}
use borrow.Author.Tests.{ne_eqb}
use lib.Dec.{eqb}
use Rattle.numbers.proofs.Choices.{of-cond, by_cond}
use Rattle.device.specs.declared.registers.Registers.{Registers}
use Rattle.status.specs.Status.{ei}
use Rattle.words.specs.Refusals.{stack_full}
use Rattle.events.specs.Events.{allowed}
use Rattle.machine.specs.Replies.{Ending}
use Rattle.machine.specs.Counting.{none}
use Rattle.machine.specs.Events.{serial_out_ending, interrupt_ending, kind_done, event_done}
use Rattle.machine.specs.WordsDone.{interrupt_accepted, InterruptAnswers, CountsInterrupts, Fetched, CountsFetched}
use Rattle.machine.proofs.Counting.{run-counts}
use Rattle.machine.proofs.Endings.{by_tests}

-- what is to be shown of an ending
abbrev Right : Registers → ℕ → Ending → Type 0
Right r kind e = e.words ≡ cond (interrupt_accepted kind r e) 2 0

-- kind 6, by its two tests
edge-counts : (large : Bool) (r : Registers) (trb : ℕ) (ram : List ℕ) → Right r 6 (interrupt_ending large r trb ram)
unfolding interrupt_ending
edge-counts large r trb ram = by_cond (Right r 6) (ei r.sr) (λ on. of-cond (Right r 6) (stack_full large r) refl (rw on)) (λ off. rw off)

pub counts-interrupts : CountsInterrupts
counts-interrupts large r trb program rom ram kind value =
    by_tests (Right r (suc kind)) large r trb program rom ram (suc kind) value
    (λ number. rw (ne_eqb (suc number) 0 (λ z. absurd (omega arith))) (refused (eqb (suc kind) 6))) (go kind)
  where
    -- what is refused is not accepted, be it an edge or not
    refused : (edge : Bool) → 0 ≡ cond {A = ℕ} (edge && false && ei r.sr) 2 0
    refused true = refl
    refused false = refl

    go : (kind : ℕ) → allowed (suc kind) value ≡ true → Right r (suc kind) (kind_done large (suc kind) value r trb program rom ram)
    go zero ok = unfold kind_done in refl
    go (suc zero) ok = unfold kind_done in refl
    go (suc (suc zero)) ok = unfold kind_done in refl
    go (suc (suc (suc zero))) ok = unfold kind_done in refl
    go (suc (suc (suc (suc zero)))) ok = unfold kind_done serial_out_ending in of-cond (Right r 5) r.sorq refl refl
    go (suc (suc (suc (suc (suc zero))))) ok = unfold kind_done in edge-counts large r trb ram
    go (suc (suc (suc (suc (suc (suc zero)))))) ok = unfold kind_done in refl
    go (suc (suc (suc (suc (suc (suc (suc kind))))))) ok = absurd (false≢true ok)

-- nothing is against the call, so its answer is that of the two tests
pub interrupt-answers : InterruptAnswers
unfolding event_done kind_done interrupt_ending
interrupt-answers large r trb program rom ram long fit = ((λ off. rw (long, fit, off)), (λ on full. rw (long, fit, on, full)), (λ on room. rw (long, fit, on, room)))

-- kind 0: a call that is refused as a whole finishes no word, else the run counts
pub counts-fetched : CountsFetched
unfolding kind_done
counts-fetched large r trb program rom ram value =
    by_tests (Fetched large program rom r trb ram) large r trb program rom ram 0 value (λ number. record { found = []; finished = none; counted = refl })
    (λ ok. let run = run-counts large program rom value 0 r trb ram in record { found = run.found; finished = run.finished; counted = omega (arith, run.counted) })
