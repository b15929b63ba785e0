-- Registers that fit their widths fit them after every run and every event, so that refusal 2 need be tested only once.
-- Assumes nothing.
use Prim.Native.Nat.{ℕ, zero, suc, ◌+◌}
use native.Mathlib.Omega.{arith}
use mathlib.Core.Bool.{Bool}
use mathlib.Core.List.{List}
use lib.Dec.{eqb}
use Rattle.numbers.proofs.Choices.{of-cond, of-get_or}
use Rattle.device.specs.Device.{chip}
use Rattle.device.specs.Registers.{registers_fit}
use Rattle.device.specs.declared.registers.Registers.{Registers}
use Rattle.device.proofs.Widths.{words-some}
use Rattle.status.specs.Status.{drs, drc, ei, without_rqm}
use Rattle.words.specs.Refusals.{stack_full}
use Rattle.words.specs.Word.{word_done}
use Rattle.words.proofs.Fitting.{SrFits, Fit, fit_of, fits-of, fit-pc, fit-sr, without_rqm-fits, with_drs-fits, without_drs-fits, without_ei-fits, pushed-fit}
use Rattle.words.proofs.WordFits.{word_fit}
use Rattle.machine.specs.Replies.{Ending}
use Rattle.machine.specs.Run.{ran}
use Rattle.machine.specs.Promises.{EventFits}
use Rattle.events.specs.Host.{status_accessed}
use Rattle.machine.specs.Events.{lent_fit, serial_out_ending, interrupt_ending, kinds, kind_done, event_done}
use Rattle.events.specs.Events.{allowed, interrupted, reset}

-- the registers that a call leaves behind fit
abbrev FitCall : Bool → Ending → Type 0
FitCall large e = Fit large e.registers

-- ---- a run

run-fit : (large : Bool) (n words : ℕ) (r : Registers) (trb : ℕ) (program rom ram : List ℕ) → Fit large r → FitCall large (ran large n words r trb program rom ram)
unfolding ran
run-fit large zero words r trb program rom ram h = h
run-fit large (suc n) words r trb program rom ram h =
    let o = word_done large r trb program rom ram in
    let done = word_fit large r trb rom ram h program in
    of-cond (FitCall large) (eqb o.number 0) (run-fit large n (words + 1) o.registers o.trb program rom o.ram done) done

-- ---- the other events

accessed-fits : (sr : ℕ) → SrFits sr → SrFits (status_accessed sr)
unfolding status_accessed
accessed-fits sr h =
    let cleared = without_rqm-fits sr h in
    of-cond SrFits (drc sr) cleared (of-cond SrFits (drs sr) (without_drs-fits (without_rqm sr) cleared) (with_drs-fits sr h))

module _ (large : Bool) (r : Registers) (trb : ℕ) (program rom ram : List ℕ) (h : Fit large r) where
  serial-out-fit : FitCall large (serial_out_ending r trb ram)
  unfolding serial_out_ending
  serial-out-fit = of-cond (FitCall large) r.sorq h h

  interrupt-fit : FitCall large (interrupt_ending large r trb ram)
  unfolding interrupt_ending
  interrupt-fit =
      let pushed = pushed-fit large r r.pc h.pc-fits h in
      let taken : Fit large (interrupted r) = fit-sr (fit-pc pushed (words-some large)) (without_ei-fits r.sr h.sr-fits) in
      of-cond (FitCall large) (ei r.sr) (of-cond (FitCall large) (stack_full large r) h taken) h

  reset-fit : Fit large (reset r)
  unfolding reset
  reset-fit = omega (arith, words-some large)

  kind-fit : (kind value : ℕ) → FitCall large (kind_done large kind value r trb program rom ram)
  unfolding kind_done
  kind-fit kind value =
      let run = run-fit large value 0 r trb program rom ram h in
      let accessed = fit-sr h (accessed-fits r.sr h.sr-fits) in
      of-get_or (FitCall large) (kinds large value r trb program rom ram) kind (run, (accessed, (accessed, (h, (h, (serial-out-fit, (interrupt-fit, tt))))))) reset-fit

  event-fit : (kind value : ℕ) → FitCall large (event_done large r trb program rom ram kind value)
  unfolding event_done
  event-fit kind value =
      let done = of-cond (FitCall large) (allowed kind value) (kind-fit kind value) h in
      of-cond (FitCall large) (lent_fit large program rom ram) (of-cond (FitCall large) (registers_fit (chip large) r) done h) h

-- ---- by the test of refusal 2

pub event-fits : EventFits
event-fits large r trb program rom ram kind value e = fits-of large _ (event-fit large r trb program rom ram (fit_of large r e) kind value)
