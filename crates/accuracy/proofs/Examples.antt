-- The examples are computed: each is a run of the definitions on a machine whose every register is known.
-- Assumes nothing.
use Prim.Native.Nat.{ℕ}
use native.Mathlib.Omega.{arith}
use mathlib.Core.Path.{◌≡◌, refl, ap}
use mathlib.Core.Bool.{true, false, true≢false}
use lib.IntN.{pos, negsuc}
use Rattle.numbers.specs.Signed.{signed, leaves, floor_div, floor_mod}
use Rattle.numbers.specs.Held.{held}
use borrow.Author.Differences.{down}
use Rattle.alu.specs.Flags.{sum_flags}
use Rattle.alu.specs.Operations.{plus, operated}
use Rattle.alu.specs.Answer.{answer}
use Rattle.multiplier.specs.Product.{product, m_of}
use Rattle.device.specs.Registers.{fresh_registers, registers_fit}
use Rattle.device.specs.Pointers.{ram_pointer_moved}
use Rattle.word.specs.Word.{word_of, taken_apart}
use Rattle.flow.specs.Stack.{pushed}
use Rattle.stages.specs.Accumulators.{operand_of, accumulated}
use Rattle.stages.specs.Bus.{read_from}
use Rattle.stages.specs.Destinations.{loaded, ram_loaded}
use Rattle.stages.specs.Pointing.{pointed}
use Rattle.words.specs.Refusals.{op_refusal, ldi_refusal}
use Rattle.words.specs.Operation.{op_word}
use Rattle.words.specs.Load.{ldi_word}
use Rattle.words.specs.Word.{fetched_done, word_done}
use Rattle.machine.specs.Run.{ran}
use Rattle.machine.specs.Events.{interrupt_ending, kind_done, event_done}
use Rattle.events.specs.Events.{reset}
use Rattle.accuracy.specs.Exact.{in32768ths, products, held_sum}
use Rattle.accuracy.specs.Deeds.{after, words_of, call_deeds, deeds}
use Rattle.accuracy.specs.Listed.{words_done, words_in, interrupts_in}
use Rattle.accuracy.specs.Adding.{added}
use Rattle.accuracy.specs.Examples.{Examples}

-- an adding word is not asked what else it does
adds : {A : Type 0} → true ≡ false → A
adds e = absurd (true≢false e)

-- a number other than -32768 is not both
other : (n : ℕ) {A : Type 0} → (n ≡ 32767 → ⊥) → A × (negsuc n ≡ negsuc 32767) → ⊥
other n h e = h (let k = ap down e.1 in omega arith)

positive : (n : ℕ) {A : Type 0} → A × (pos n ≡ negsuc 32767) → ⊥
positive n e = let k = ap down e.1 in absurd (omega arith)

pub examples : Examples
unfolding
    deeds call_deeds words_of added after event_done kind_done ran reset word_done fetched_done taken_apart word_of op_word op_refusal ldi_word ldi_refusal read_from accumulated
    operand_of operated plus sum_flags loaded ram_loaded pointed ram_pointer_moved fresh_registers registers_fit m_of product signed floor_div floor_mod leaves held held_sum
    in32768ths products answer words_done words_in interrupts_in interrupt_ending pushed
examples trb = (
  -- Tight
  (refl, (tt, (tt, (tt, tt))), omega arith, (adds, (adds, (adds, tt))), (positive 1, (positive 1, (positive 1, tt))), refl, refl),
  -- Sharp
  (refl, refl, refl, refl, refl),
  -- FourAdds
  (refl, (tt, (tt, (tt, (tt, (tt, (tt, tt)))))), refl, (adds, (adds, ((λ e. (refl, refl)), (adds, ((λ e. (refl, refl)), (adds, tt)))))), (other 32766 (λ z. absurd (omega arith)), (other 32766 (λ z. absurd (omega arith)), (other 2 (λ z. absurd (omega arith)), (positive 32767, tt)))), refl, refl, (λ h. h.near.le)),
  -- Squared
  (refl, (tt, tt), omega arith, (adds, tt), refl, (λ h. h.near.le)),
  -- ResetBetween
  (refl, omega arith, (adds, (tt, tt)), (other 32766 (λ z. absurd (omega arith)), tt), (λ h. h.near.le)),
  -- Loaded
  (refl, (tt, tt), omega arith, tt, (λ h. h.never-below.le)),
  -- WithCarry
  (refl, (tt, tt), omega arith, tt, (λ h. h.never-below.le)),
  -- Unclear
  (tt, omega arith, tt, tt, (λ h. h.never-below.le)),
  -- Interrupted
  (refl, refl, refl, refl),
  -- InterruptRefused
  (refl, refl, refl, refl),
  -- Tight, Sharp and FourAdds on the larger chip
  (refl, (tt, (tt, (tt, tt))), omega arith, (adds, (adds, (adds, tt))), (positive 1, (positive 1, (positive 1, tt))), refl, refl),
  (refl, refl, refl, refl, refl),
  (refl, (tt, (tt, (tt, (tt, (tt, (tt, tt)))))), refl, (adds, (adds, ((λ e. (refl, refl)), (adds, ((λ e. (refl, refl)), (adds, tt)))))), (other 32766 (λ z. absurd (omega arith)), (other 32766 (λ z. absurd (omega arith)), (other 2 (λ z. absurd (omega arith)), (positive 32767, tt)))), refl, refl, (λ h. h.near.le)),
)
