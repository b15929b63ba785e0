-- Every bench case of the uPD77C25 holds of the definitions: each is computed.
-- Assumes nothing.
use mathlib.Core.Path.{refl}
use Rattle.alu.specs.Operations.{operated}
use Rattle.device.specs.Pointers.{ram_pointer_moved}
use Rattle.device.proofs.Widths.{ram_pointer_moved-still}
use Rattle.flow.specs.Conditions.{condition_holds}
use Rattle.word.specs.JumpCodes.{branch_of, condition_of, turned_round, address_of}
use Rattle.word.specs.Word.{word_of, taken_apart}
use Rattle.stages.specs.Bus.{bus_of, read_from}
use Rattle.stages.specs.Accumulators.{accumulated}
use Rattle.stages.specs.Destinations.{loaded, ram_loaded}
use Rattle.stages.specs.Pointing.{pointed}
use Rattle.words.specs.Refusals.{op_refusal, jp_refusal, ldi_refusal}
use Rattle.words.specs.Operation.{op_word}
use Rattle.words.specs.Jump.{jp_registers, jp_word}
use Rattle.words.specs.Load.{ldi_word}
use Rattle.words.specs.Word.{fetched_done, word_done}
use Rattle.cases.specs.LargeCases.{case1, case2, case3, case4, case5, large_cases, LargeBench}

holds1 : case1.says
unfolding case1 word_of taken_apart word_done fetched_done branch_of address_of jp_word jp_refusal jp_registers ldi_word ldi_refusal loaded ram_loaded
holds1 = (refl, refl, (λ r trb program rom ram e u. rw e), (λ r trb program rom ram e u. rw e))

holds2 : case2.says
unfolding case2 word_of taken_apart word_done fetched_done op_word op_refusal bus_of read_from accumulated operated loaded ram_loaded pointed ram_pointer_moved
holds2 = ((λ r trb program rom ram e d. rw (e, d)), refl, refl)

holds3 : case3.says
unfolding case3 word_of taken_apart word_done fetched_done op_word op_refusal bus_of read_from accumulated operated loaded ram_loaded pointed ram_pointer_moved
holds3 = λ r trb program rom ram e d. rw (e, d)

holds4 : case4.says
unfolding case4 word_of taken_apart word_done fetched_done branch_of condition_of turned_round address_of condition_holds jp_word jp_refusal jp_registers
holds4 = ((λ r trb program rom ram e d. rw (e, d)), (λ r trb program rom ram e d. rw (e, d)), (λ r trb program rom ram e d. rw (e, d)), (λ r trb program rom ram e d. rw (e, d)))

holds5 : case5.says
unfolding case5 word_of taken_apart word_done fetched_done op_word op_refusal ldi_word ldi_refusal bus_of read_from accumulated operated loaded ram_loaded pointed
holds5 = ((λ r trb program rom ram e t. rw (e, t, ram_pointer_moved-still r.dp)), (λ r trb program rom ram e u. rw e))

pub large-bench : LargeBench
unfolding large_cases
large-bench = (holds1, (holds2, (holds3, (holds4, (holds5, tt)))))
