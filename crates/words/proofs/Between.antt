-- The registers between the stages of an OP or RT word.
-- Assumes nothing.
use Prim.Native.Nat.{ℕ}
use mathlib.Core.Bool.{Bool}
use mathlib.Core.List.{List}
use Rattle.device.specs.declared.registers.Registers.{Registers}
use Rattle.word.specs.declared.OpFields.{OpFields}
use Rattle.codes.specs.Codes.{source_of, destination_of}
use Rattle.stages.specs.Bus.{read_from}
use Rattle.stages.specs.Accumulators.{accumulated}
use Rattle.stages.specs.Destinations.{loaded}
use Rattle.stages.specs.Pointing.{pointed}
use Rattle.words.specs.Operation.{op_bus}

module _ (large : Bool) (r : Registers) (trb : ℕ) (f : OpFields) where
  abbrev pub op_read : Registers
  op_read = read_from r (source_of f.src)

  module _ (ram rom : List ℕ) where
    abbrev pub op_operated : Registers
    op_operated = accumulated r op_read f (op_bus large r trb f ram rom) ram

    abbrev pub op_loaded : Registers
    op_loaded = loaded large r.dp r.rp op_operated (destination_of f.dst) (op_bus large r trb f ram rom) ram rom

    abbrev pub op_pointed : Registers
    op_pointed = pointed large r.dp r.rp op_loaded f
