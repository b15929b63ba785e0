-- What cannot happen: the smaller chip never looks at TRB, the larger one never answers 6 or 7.
-- Assumes nothing.
use Prim.Native.Nat.{ℕ, zero, suc, ◌+◌}
use mathlib.Core.Path.{◌≡◌, refl, sym, ap, ◌∙◌}
use mathlib.Core.Bool.{Bool, true, false, cond, false≢true}
use mathlib.Core.List.{List}
use lib.Dec.{eqb}
use Rattle.numbers.proofs.Choices.{of-cond, of-get_or}
use Rattle.device.specs.Device.{chip}
use Rattle.device.specs.Registers.{registers_fit}
use Rattle.device.specs.declared.registers.Registers.{Registers}
use Rattle.status.specs.Status.{ei}
use Rattle.words.specs.Refusals.{stack_full}
use Rattle.words.specs.Word.{word_done}
use Rattle.words.proofs.Frames.{no-trb as word-no-trb}
use Rattle.words.proofs.Order.{clear, word-clear}
use Rattle.events.specs.Events.{allowed, serial_out, interrupted}
use Rattle.machine.specs.Replies.{Ending, refused_call, finished_call, accepted_call}
use Rattle.machine.specs.Run.{ran}
use Rattle.machine.specs.Events.{lent_fit, serial_out_ending, interrupt_ending, kinds, kind_done, event_done}
use Rattle.machine.specs.Promises.{with_trb, NoTrb, NeverSixOrSeven}

-- ---- the smaller chip and TRB

-- a choice between two endings of which only TRB is another
either : {trb : ℕ} (t : Bool) {a b : Ending} (c d : Ending) → a ≡ with_trb trb c → b ≡ with_trb trb d → cond t a b ≡ with_trb trb (cond t c d)
either true c d e₁ e₂ = e₁
either false c d e₁ e₂ = e₂

run-no-trb : (n words : ℕ) (r : Registers) (trb other : ℕ) (program rom ram : List ℕ) → ran false n words r trb program rom ram ≡ with_trb trb (ran false n words r other program rom ram)
unfolding ran
run-no-trb zero words r trb other program rom ram = refl
run-no-trb (suc n) words r trb other program rom ram =
    let o = word_done false r other program rom ram in
    rw (word-no-trb r trb other program rom ram)
    (go (run-no-trb n (words + 1) o.registers trb o.trb program rom o.ram) (eqb o.number 0))
  where
    go : let o = word_done false r other program rom ram in
        ran false n (words + 1) o.registers trb program rom o.ram ≡ with_trb trb (ran false n (words + 1) o.registers o.trb program rom o.ram)
        → (t : Bool)
        → cond t (ran false n (words + 1) o.registers trb program rom o.ram) (record { number = o.number; words = words; value = 0; registers = o.registers; trb = trb; ram = o.ram })
        ≡ with_trb trb (cond t (ran false n (words + 1) o.registers o.trb program rom o.ram) (record { number = o.number; words = words; value = 0; registers = o.registers; trb = o.trb; ram = o.ram }))
    go more true = more
    go more false = refl

kind-no-trb : (kind value : ℕ) (r : Registers) (trb other : ℕ) (program rom ram : List ℕ) → allowed kind value ≡ true
    → kind_done false kind value r trb program rom ram ≡ with_trb trb (kind_done false kind value r other program rom ram)
unfolding kind_done serial_out_ending interrupt_ending
kind-no-trb zero value r trb other program rom ram ok = run-no-trb value 0 r trb other program rom ram
kind-no-trb (suc zero) value r trb other program rom ram ok = refl
kind-no-trb (suc (suc zero)) value r trb other program rom ram ok = refl
kind-no-trb (suc (suc (suc zero))) value r trb other program rom ram ok = refl
kind-no-trb (suc (suc (suc (suc zero)))) value r trb other program rom ram ok = refl
kind-no-trb (suc (suc (suc (suc (suc zero))))) value r trb other program rom ram ok = either r.sorq (finished_call r.so (serial_out r) other ram) (refused_call 10 r other ram) refl refl
kind-no-trb (suc (suc (suc (suc (suc (suc zero)))))) value r trb other program rom ram ok =
    either (ei r.sr) (cond (stack_full false r) (refused_call 9 r other ram) (accepted_call (interrupted r) other ram)) (finished_call 0 r other ram)
    (either (stack_full false r) (refused_call 9 r other ram) (accepted_call (interrupted r) other ram) refl refl) refl
kind-no-trb (suc (suc (suc (suc (suc (suc (suc zero))))))) value r trb other program rom ram ok = refl
kind-no-trb (suc (suc (suc (suc (suc (suc (suc (suc kind)))))))) value r trb other program rom ram ok = absurd (false≢true ok)

pub no-trb : NoTrb
unfolding event_done
no-trb r trb other program rom ram kind value =
    let asked = cond (allowed kind value) (kind_done false kind value r other program rom ram) (refused_call 3 r other ram) in
    either (lent_fit false program rom ram) (cond (registers_fit (chip false) r) asked (refused_call 2 r other ram)) (refused_call 1 r other ram)
    (either (registers_fit (chip false) r) asked (refused_call 2 r other ram) (on (allowed kind value) refl) refl) refl
  where
    on : (t : Bool) → allowed kind value ≡ t
        → cond t (kind_done false kind value r trb program rom ram) (refused_call 3 r trb ram) ≡ with_trb trb (cond t (kind_done false kind value r other program rom ram) (refused_call 3 r other ram))
    on true e = kind-no-trb kind value r trb other program rom ram e
    on false e = refl

-- ---- the larger chip, 6 and 7

abbrev Clear : Ending → Type 0
Clear e = clear e.number ≡ true

run-clear : (n words : ℕ) (r : Registers) (trb : ℕ) (program rom ram : List ℕ) → Clear (ran true n words r trb program rom ram)
unfolding ran
run-clear zero words r trb program rom ram = refl
run-clear (suc n) words r trb program rom ram =
    let o = word_done true r trb program rom ram in
    of-cond Clear (eqb o.number 0) (run-clear n (words + 1) o.registers o.trb program rom o.ram) (word-clear r trb program rom ram)

-- an event's own refusals are 9 and 10
kind-clear : (kind value : ℕ) (r : Registers) (trb : ℕ) (program rom ram : List ℕ) → Clear (kind_done true kind value r trb program rom ram)
unfolding kind_done serial_out_ending interrupt_ending
kind-clear kind value r trb program rom ram =
    of-get_or Clear (kinds true value r trb program rom ram) kind
    (run-clear value 0 r trb program rom ram, (refl, (refl, (refl, (refl, (of-cond Clear r.sorq refl refl, (of-cond Clear (ei r.sr) (of-cond Clear (stack_full true r) refl refl) refl, tt))))))) refl

-- and the whole call's 1, 2 and 3
call-clear : (r : Registers) (trb : ℕ) (program rom ram : List ℕ) (kind value : ℕ) → Clear (event_done true r trb program rom ram kind value)
unfolding event_done
call-clear r trb program rom ram kind value =
    of-cond Clear (lent_fit true program rom ram)
    (of-cond Clear (registers_fit (chip true) r) (of-cond Clear (allowed kind value) (kind-clear kind value r trb program rom ram) refl) refl) refl

pub never-six-or-seven : NeverSixOrSeven
never-six-or-seven r trb program rom ram kind value =
    let c = call-clear r trb program rom ram kind value in
    ((λ e. false≢true (ap clear (sym e) ∙ c)), (λ e. false≢true (ap clear (sym e) ∙ c)))
