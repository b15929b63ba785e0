-- The record of the uPD77C25: the registers, and TRB beside them.
use Rattle.device.specs.Registers.{fresh_registers}
use Rattle.board_77c25.specs.declared.LargeRegisters.{LargeRegisters}

-- a machine that has run nothing
unfoldable pub fresh_large_registers : LargeRegisters
fresh_large_registers = record { registers = fresh_registers; trb = 0 }
