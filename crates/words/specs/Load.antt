-- 01, "JP and LDI": "LDI sends ID to DST as a bus value", and "step[s] PC as an OP word does".
use Rattle.std.specs.Prelude.{ℕ, Bool, List}
use Rattle.device.specs.declared.registers.Registers.{Registers}
use Rattle.word.specs.declared.LdiFields.{LdiFields}
use Rattle.codes.specs.Codes.{destination_of}
use Rattle.stages.specs.Destinations.{loaded, trb_loaded, ram_loaded}
use Rattle.flow.specs.Stack.{stepped}
use Rattle.words.specs.Outcomes.{Outcome, finished_word, decided}
use Rattle.words.specs.Refusals.{ldi_refusal}

abbrev pub ldi_registers : Bool → Registers → LdiFields → List ℕ → List ℕ → Registers
ldi_registers large r f ram rom = stepped large (loaded large r.dp r.rp r (destination_of f.dst) f.id ram rom)

abbrev pub ldi_trb : Bool → ℕ → LdiFields → ℕ
ldi_trb large trb f = trb_loaded large trb f.dst f.id

abbrev pub ldi_ram : Registers → LdiFields → List ℕ → List ℕ
ldi_ram r f ram = ram_loaded r.dp (destination_of f.dst) f.id ram

unfoldable pub ldi_word : Bool → Registers → ℕ → LdiFields → List ℕ → List ℕ → Outcome
ldi_word large r trb f ram rom =
    decided (ldi_refusal large r f rom) r trb ram (finished_word (ldi_registers large r f ram rom) (ldi_trb large trb f) (ldi_ram r f ram))
