-- The stack and PC: 01, "A push writes the stack cell numbered by the depth ..".
use Rattle.std.specs.Prelude.{ℕ, ◌-◌, Bool, [], ◌∷◌, slice_index_or}
use Rattle.device.specs.Device.{chip}
use Rattle.device.specs.Pointers.{next_address}
use Rattle.device.specs.Set.{set_pc, set_depth, set_stack0, set_stack1, set_stack2, set_stack3}
use Rattle.device.specs.declared.pointers.InstructionAddress.{InstructionAddress}
use Rattle.device.specs.declared.registers.Registers.{Registers}

-- "A push writes the stack cell numbered by the depth, counting cells from 0, and raises the depth"; there is no cell 4
unfoldable pub pushed : Registers → InstructionAddress → Registers
pushed r x = slice_index_or (set_depth (set_stack0 r x) 1 ∷ set_depth (set_stack1 r x) 2 ∷ set_depth (set_stack2 r x) 3 ∷ set_depth (set_stack3 r x) 4 ∷ []) r.depth r

-- the stack cell numbered n
abbrev pub stack_cell : Registers → ℕ → InstructionAddress
stack_cell r n = slice_index_or (r.stack0 ∷ r.stack1 ∷ r.stack2 ∷ []) n r.stack3

-- "a pop lowers the depth, takes the cell so numbered and leaves that cell as it is": into PC
unfoldable pub popped : Registers → Registers
popped r = set_pc (set_depth r (r.depth - 1)) (stack_cell r (r.depth - 1))

-- "PC goes up by one, 511 to 0"; on the larger chip 2047 to 0
abbrev pub stepped : Bool → Registers → Registers
stepped large r = set_pc r (next_address (chip large) r.pc)
