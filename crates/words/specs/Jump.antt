-- 01, "JP and LDI": "BRCH 100 jumps, 101 calls (pushes PC plus one, 0 from 511), 010 jumps on CND". The word is one of the row JP, with the fields of its
-- chip.
use Rattle.std.specs.Prelude.{Bool, cond, not, List, ℕ, ◌==◌}
use Rattle.device.specs.Device.{chip}
use Rattle.device.specs.Pointers.{next_address}
use Rattle.device.specs.Set.{set_pc}
use Rattle.device.specs.declared.registers.Registers.{Registers}
use Rattle.word.specs.Fields.{branch}
use Rattle.word.specs.JumpCodes.{branch_of, condition_of, turned_round, address_of}
use Rattle.word.specs.declared.Word.{Word}
use Rattle.flow.specs.Conditions.{condition_holds}
use Rattle.flow.specs.Stack.{pushed, stepped}
use Rattle.words.specs.Outcomes.{Outcome, finished_word, decided}
use Rattle.words.specs.Refusals.{jp_refusal}

abbrev pub jumped : Registers → ℕ → Registers
jumped r na = set_pc r (record { 0 = na })

-- "010 jumps on CND"; two codes of the larger chip jump where it does not hold
abbrev pub jump_holds : Registers → Word → Bool
jump_holds r word = cond (turned_round word) (not (condition_holds r (condition_of word))) (condition_holds r (condition_of word))

-- "An untaken jump .. step[s] PC as an OP word does"
unfoldable pub jp_registers : Bool → Registers → Word → Registers
jp_registers large r word =
    let to = jumped r (address_of word) in
    cond (branch_of word == branch.jump) to
    (cond (branch_of word == branch.call) (jumped (pushed r (next_address (chip large) r.pc)) (address_of word))
    (cond (jump_holds r word) to (stepped large r)))

unfoldable pub jp_word : Bool → Registers → ℕ → Word → List ℕ → Outcome
jp_word large r trb word ram = decided (jp_refusal large r word) r trb ram (finished_word (jp_registers large r word) trb ram)
