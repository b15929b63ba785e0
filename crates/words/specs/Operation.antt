-- 01, "One OP or RT word": "Everything is read from the state before the word. Then: the ALU result and its flags, the destination, the
-- pointers, and for RT the pop into PC. Otherwise PC goes up by one". r and trb are the state before the word.
use Rattle.std.specs.Prelude.{ℕ, Bool, cond, List}
use Rattle.device.specs.declared.registers.Registers.{Registers}
use Rattle.word.specs.declared.OpFields.{OpFields}
use Rattle.codes.specs.Codes.{source_of, destination_of}
use Rattle.stages.specs.Bus.{bus_of, read_from}
use Rattle.stages.specs.Accumulators.{accumulated}
use Rattle.stages.specs.Destinations.{loaded, trb_loaded, ram_loaded}
use Rattle.stages.specs.Pointing.{pointed}
use Rattle.flow.specs.Stack.{popped, stepped}
use Rattle.words.specs.Outcomes.{Outcome, finished_word, decided}
use Rattle.words.specs.Refusals.{op_refusal}

-- the bus of the word
abbrev pub op_bus : Bool → Registers → ℕ → OpFields → List ℕ → List ℕ → ℕ
op_bus large r trb f ram rom = bus_of large r trb (source_of f.src) ram rom

-- "for RT the pop into PC. Otherwise PC goes up by one"
abbrev pub pc_moved : Bool → Bool → Registers → Registers
pc_moved large rt q = cond rt (popped q) (stepped large q)

abbrev pub op_registers : Bool → Bool → Registers → ℕ → OpFields → List ℕ → List ℕ → Registers
op_registers large rt r trb f ram rom =
    let bus = op_bus large r trb f ram rom in
    let read = read_from r (source_of f.src) in
    let operated = accumulated r read f bus ram in
    let moved = loaded large r.dp r.rp operated (destination_of f.dst) bus ram rom in
    pc_moved large rt (pointed large r.dp r.rp moved f)

abbrev pub op_trb : Bool → Registers → ℕ → OpFields → List ℕ → List ℕ → ℕ
op_trb large r trb f ram rom = trb_loaded large trb f.dst (op_bus large r trb f ram rom)

abbrev pub op_ram : Bool → Registers → ℕ → OpFields → List ℕ → List ℕ → List ℕ
op_ram large r trb f ram rom = ram_loaded r.dp (destination_of f.dst) (op_bus large r trb f ram rom) ram

unfoldable pub op_word : Bool → Bool → Registers → ℕ → OpFields → List ℕ → List ℕ → Outcome
op_word large rt r trb f ram rom =
    decided (op_refusal large rt r f rom) r trb ram (finished_word (op_registers large rt r trb f ram rom) (op_trb large r trb f ram rom) (op_ram large r trb f ram rom))
