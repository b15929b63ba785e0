-- Every bench case holds of the definitions: each is computed.
-- Assumes nothing.
use Prim.Native.Nat.{ℕ}
use native.Mathlib.Omega.{arith}
use mathlib.Core.Path.{◌≡◌, refl, sym, ap, ◌∙◌}
use mathlib.Core.Bool.{false}
use Rattle.numbers.specs.Bits.{bits}
use Rattle.numbers.specs.Signed.{signed, leaves, floor_div, floor_mod}
use Rattle.numbers.specs.Held.{held}
use Rattle.numbers.specs.Reversal.{reversed}
use Rattle.alu.specs.Flags.{sum_flags}
use Rattle.alu.specs.Operations.{plus, operated}
use Rattle.alu.proofs.Holding.{summed, whole_sum}
use Rattle.multiplier.specs.Product.{product, m_of, n_of}
use Rattle.device.specs.Pointers.{ram_pointer_moved}
use Rattle.device.specs.declared.registers.Registers.{Registers}
use Rattle.word.specs.JumpCodes.{branch_of, address_of}
use Rattle.word.specs.Word.{word_of, taken_apart}
use Rattle.status.specs.Status.{drc, drs, with_drs}
use Rattle.stages.specs.Bus.{bus_of}
use Rattle.stages.specs.Destinations.{loaded, ram_loaded}
use Rattle.words.specs.Refusals.{jp_refusal, ldi_refusal}
use Rattle.words.specs.Jump.{jp_registers, jp_word}
use Rattle.words.specs.Load.{ldi_word}
use Rattle.words.specs.Word.{fetched_done, word_done}
use Rattle.words.proofs.Frames.{word-0}
use Rattle.events.specs.Host.{status_accessed, byte_read, host_read}
use Rattle.machine.specs.Events.{kind_done, event_done}
use Rattle.machine.proofs.Calls.{call-done}
use Rattle.machine.proofs.Fitting.{event-fits}
use Rattle.accuracy.specs.Exact.{in32768ths, products, held_sum}
use Rattle.accuracy.proofs.Demand3.{calls-mix}
use Rattle.accuracy.proofs.Corollaries.{mix-answer}
use Rattle.accuracy.proofs.Examples.{examples}
use Rattle.cases.specs.Cases.{Bench, cases, case1, case2, case3, case4, case5, case6, case7, case8, case9, case10, three_times}

holds1 : case1.says
unfolding case1
holds1 = word-0

holds2 : case2.says
unfolding case2 branch_of address_of word_of taken_apart word_done fetched_done jp_word jp_refusal jp_registers ldi_word ldi_refusal loaded ram_loaded
holds2 = (refl, refl, (λ r trb program rom ram e. rw e), (λ r trb program rom ram e. rw e))

holds3 : case3.says
unfolding case3 signed floor_div floor_mod product m_of n_of
holds3 = (refl, refl, refl, refl)

holds4 : case4.says
unfolding case4 signed leaves sum_flags plus operated
holds4 = λ s1 s0 c z ov0 other. ((refl, refl, refl, refl), (refl, refl, refl, refl))

holds5 : case5.says
unfolding case5 signed leaves sum_flags plus operated
holds5 = λ s1 s0 c z ov0 other. ((refl, refl, refl, refl), refl)

holds6 : case6.says
unfolding case6 signed floor_div floor_mod operated
holds6 = λ flags other p. (refl, refl, refl, refl)

holds7 : case7.says
unfolding case7 ram_pointer_moved
holds7 = (refl, refl)

holds8 : case8.says
unfolding case8 bus_of reversed
holds8 = λ large r trb ram rom e. rw e

-- the first access leaves DRC as it is and sets DRS
drs-set : (sr : ℕ) → (bits (with_drs sr) 10 10 ≡ bits sr 10 10) × (bits (with_drs sr) 12 12 ≡ 1)
drs-set sr = (omega arith, omega arith)

low-then-high : (r : Registers) → r.dr ≡ 0x1234 → drc r.sr ≡ false → drs r.sr ≡ false → (byte_read r ≡ 0x34) × (byte_read (host_read r) ≡ 0x12)
unfolding byte_read status_accessed
low-then-high r d c s = rw (c, s, d, (drs-set r.sr).0, (drs-set r.sr).1, c) (refl, refl)

holds9 : case9.says
unfolding case9 kind_done
holds9 = λ large r trb program rom ram long fit d c s.
    let first = call-done large r trb program rom ram 1 0 long fit refl in
    let after = event-fits large r trb program rom ram 1 0 fit in
    let second = call-done large (event_done large r trb program rom ram 1 0).registers (event_done large r trb program rom ram 1 0).trb program rom ram 1 0 long after refl in
    let both = low-then-high r d c s in (
      sym (ap (λ x. x.number) first),
      sym (ap (λ x. x.value) first) ∙ both.0,
      sym (ap (λ x. x.number) second),
      sym (ap (λ x. x.value) second) ∙ sym (ap (λ x. byte_read x.registers) first) ∙ both.1,
    )

-- the answer is the sum of the three M, held: both A and the distance are then numbers
holds10 : case10.says
unfolding case10 signed leaves floor_div floor_mod held product m_of plus sum_flags summed whole_sum in32768ths products held_sum
holds10 = (
  (λ large r trb calls clear zero unreset alone three.
      let a = ap (λ x. x.value) (calls-mix large r trb calls unreset alone) in
      let n = mix-answer large r trb calls (three_times 0xffff 1) clear unreset alone three (omega arith) in
      (a ∙ rw (three, zero), rw (n, three, zero), rw three)),
  (λ trb. ((examples trb).0, (examples trb).10)),
)

pub bench : Bench
unfolding cases
bench = (holds1, (holds2, (holds3, (holds4, (holds5, (holds6, (holds7, (holds8, (holds9, (holds10, tt))))))))))
