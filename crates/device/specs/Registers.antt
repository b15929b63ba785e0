-- The register record: 01, "Registers: PC and four stack cells ..".
use Rattle.std.specs.Prelude.{Bool, false, ◌&&◌, ◌==◌, nat_le}
use Rattle.numbers.specs.Bits.{bits}
use Rattle.alu.specs.declared.Flags.{Flags}
use Rattle.device.specs.Device.{Device}
use Rattle.device.specs.Pointers.{address_fits, ram_pointer_fits, rom_pointer_fits}
use Rattle.device.specs.declared.pointers.InstructionAddress.{InstructionAddress}
use Rattle.device.specs.declared.registers.Registers.{Registers}

-- all six flags 0
abbrev pub clear_flags : Flags
clear_flags = record { s1 = false; s0 = false; c = false; z = false; ov1 = false; ov0 = false }

-- a machine that has run nothing: every register, flag and mark 0
unfoldable pub fresh_registers : Registers
fresh_registers =
    let start : InstructionAddress = record { 0 = 0 } in
    record { pc = start; stack0 = start; stack1 = start; stack2 = start; stack3 = start; depth = 0; a = 0; b = 0; k = 0; l = 0; tr = 0; dr = 0; si = 0; so = 0; dp = record { 0 = 0 }; rp = record { 0 = 0 }; sr = 0; flags = record { a = clear_flags; b = clear_flags }; siack = false; soack = false; sorq = false }

-- not "PC, a stack cell, DP or RP too wide, depth over 4, or SR bits 6 to 2 not 0" (refusal 2)
unfoldable pub registers_fit : Device → Registers → Bool
registers_fit device r =
    address_fits device r.pc
    && address_fits device r.stack0 && address_fits device r.stack1 && address_fits device r.stack2 && address_fits device r.stack3
    && ram_pointer_fits device r.dp && rom_pointer_fits device r.rp
    && nat_le r.depth device.stack && bits r.sr 6 2 == 0
