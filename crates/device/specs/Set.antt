-- The register record with one register changed; proofs/Set.antt has a law for each. Made by tools/setters from src/registers.rt.
use Rattle.std.specs.Prelude.{ℕ, Bool}
use Rattle.alu.specs.declared.Flags.{Flags}
use Rattle.device.specs.declared.pointers.InstructionAddress.{InstructionAddress}
use Rattle.device.specs.declared.pointers.RamPointer.{RamPointer}
use Rattle.device.specs.declared.pointers.RomPointer.{RomPointer}
use Rattle.device.specs.declared.registers.Registers.{Registers}

abbrev pub set_pc : Registers → InstructionAddress → Registers
set_pc r x = record { pc = x; stack0 = r.stack0; stack1 = r.stack1; stack2 = r.stack2; stack3 = r.stack3; flags = r.flags; si = r.si; siack = r.siack; depth = r.depth; a = r.a; b = r.b; k = r.k; l = r.l; tr = r.tr; dr = r.dr; so = r.so; dp = r.dp; rp = r.rp; sr = r.sr; soack = r.soack; sorq = r.sorq }

abbrev pub set_stack0 : Registers → InstructionAddress → Registers
set_stack0 r x = record { pc = r.pc; stack0 = x; stack1 = r.stack1; stack2 = r.stack2; stack3 = r.stack3; flags = r.flags; si = r.si; siack = r.siack; depth = r.depth; a = r.a; b = r.b; k = r.k; l = r.l; tr = r.tr; dr = r.dr; so = r.so; dp = r.dp; rp = r.rp; sr = r.sr; soack = r.soack; sorq = r.sorq }

abbrev pub set_stack1 : Registers → InstructionAddress → Registers
set_stack1 r x = record { pc = r.pc; stack0 = r.stack0; stack1 = x; stack2 = r.stack2; stack3 = r.stack3; flags = r.flags; si = r.si; siack = r.siack; depth = r.depth; a = r.a; b = r.b; k = r.k; l = r.l; tr = r.tr; dr = r.dr; so = r.so; dp = r.dp; rp = r.rp; sr = r.sr; soack = r.soack; sorq = r.sorq }

abbrev pub set_stack2 : Registers → InstructionAddress → Registers
set_stack2 r x = record { pc = r.pc; stack0 = r.stack0; stack1 = r.stack1; stack2 = x; stack3 = r.stack3; flags = r.flags; si = r.si; siack = r.siack; depth = r.depth; a = r.a; b = r.b; k = r.k; l = r.l; tr = r.tr; dr = r.dr; so = r.so; dp = r.dp; rp = r.rp; sr = r.sr; soack = r.soack; sorq = r.sorq }

abbrev pub set_stack3 : Registers → InstructionAddress → Registers
set_stack3 r x = record { pc = r.pc; stack0 = r.stack0; stack1 = r.stack1; stack2 = r.stack2; stack3 = x; flags = r.flags; si = r.si; siack = r.siack; depth = r.depth; a = r.a; b = r.b; k = r.k; l = r.l; tr = r.tr; dr = r.dr; so = r.so; dp = r.dp; rp = r.rp; sr = r.sr; soack = r.soack; sorq = r.sorq }

abbrev pub set_flags_a : Registers → Flags → Registers
set_flags_a r x = record { pc = r.pc; stack0 = r.stack0; stack1 = r.stack1; stack2 = r.stack2; stack3 = r.stack3; flags = record { a = x; b = r.flags.b }; si = r.si; siack = r.siack; depth = r.depth; a = r.a; b = r.b; k = r.k; l = r.l; tr = r.tr; dr = r.dr; so = r.so; dp = r.dp; rp = r.rp; sr = r.sr; soack = r.soack; sorq = r.sorq }

abbrev pub set_flags_b : Registers → Flags → Registers
set_flags_b r x = record { pc = r.pc; stack0 = r.stack0; stack1 = r.stack1; stack2 = r.stack2; stack3 = r.stack3; flags = record { a = r.flags.a; b = x }; si = r.si; siack = r.siack; depth = r.depth; a = r.a; b = r.b; k = r.k; l = r.l; tr = r.tr; dr = r.dr; so = r.so; dp = r.dp; rp = r.rp; sr = r.sr; soack = r.soack; sorq = r.sorq }

abbrev pub set_si : Registers → ℕ → Registers
set_si r x = record { pc = r.pc; stack0 = r.stack0; stack1 = r.stack1; stack2 = r.stack2; stack3 = r.stack3; flags = r.flags; si = x; siack = r.siack; depth = r.depth; a = r.a; b = r.b; k = r.k; l = r.l; tr = r.tr; dr = r.dr; so = r.so; dp = r.dp; rp = r.rp; sr = r.sr; soack = r.soack; sorq = r.sorq }

abbrev pub set_siack : Registers → Bool → Registers
set_siack r x = record { pc = r.pc; stack0 = r.stack0; stack1 = r.stack1; stack2 = r.stack2; stack3 = r.stack3; flags = r.flags; si = r.si; siack = x; depth = r.depth; a = r.a; b = r.b; k = r.k; l = r.l; tr = r.tr; dr = r.dr; so = r.so; dp = r.dp; rp = r.rp; sr = r.sr; soack = r.soack; sorq = r.sorq }

abbrev pub set_depth : Registers → ℕ → Registers
set_depth r x = record { pc = r.pc; stack0 = r.stack0; stack1 = r.stack1; stack2 = r.stack2; stack3 = r.stack3; flags = r.flags; si = r.si; siack = r.siack; depth = x; a = r.a; b = r.b; k = r.k; l = r.l; tr = r.tr; dr = r.dr; so = r.so; dp = r.dp; rp = r.rp; sr = r.sr; soack = r.soack; sorq = r.sorq }

abbrev pub set_a : Registers → ℕ → Registers
set_a r x = record { pc = r.pc; stack0 = r.stack0; stack1 = r.stack1; stack2 = r.stack2; stack3 = r.stack3; flags = r.flags; si = r.si; siack = r.siack; depth = r.depth; a = x; b = r.b; k = r.k; l = r.l; tr = r.tr; dr = r.dr; so = r.so; dp = r.dp; rp = r.rp; sr = r.sr; soack = r.soack; sorq = r.sorq }

abbrev pub set_b : Registers → ℕ → Registers
set_b r x = record { pc = r.pc; stack0 = r.stack0; stack1 = r.stack1; stack2 = r.stack2; stack3 = r.stack3; flags = r.flags; si = r.si; siack = r.siack; depth = r.depth; a = r.a; b = x; k = r.k; l = r.l; tr = r.tr; dr = r.dr; so = r.so; dp = r.dp; rp = r.rp; sr = r.sr; soack = r.soack; sorq = r.sorq }

abbrev pub set_k : Registers → ℕ → Registers
set_k r x = record { pc = r.pc; stack0 = r.stack0; stack1 = r.stack1; stack2 = r.stack2; stack3 = r.stack3; flags = r.flags; si = r.si; siack = r.siack; depth = r.depth; a = r.a; b = r.b; k = x; l = r.l; tr = r.tr; dr = r.dr; so = r.so; dp = r.dp; rp = r.rp; sr = r.sr; soack = r.soack; sorq = r.sorq }

abbrev pub set_l : Registers → ℕ → Registers
set_l r x = record { pc = r.pc; stack0 = r.stack0; stack1 = r.stack1; stack2 = r.stack2; stack3 = r.stack3; flags = r.flags; si = r.si; siack = r.siack; depth = r.depth; a = r.a; b = r.b; k = r.k; l = x; tr = r.tr; dr = r.dr; so = r.so; dp = r.dp; rp = r.rp; sr = r.sr; soack = r.soack; sorq = r.sorq }

abbrev pub set_tr : Registers → ℕ → Registers
set_tr r x = record { pc = r.pc; stack0 = r.stack0; stack1 = r.stack1; stack2 = r.stack2; stack3 = r.stack3; flags = r.flags; si = r.si; siack = r.siack; depth = r.depth; a = r.a; b = r.b; k = r.k; l = r.l; tr = x; dr = r.dr; so = r.so; dp = r.dp; rp = r.rp; sr = r.sr; soack = r.soack; sorq = r.sorq }

abbrev pub set_dr : Registers → ℕ → Registers
set_dr r x = record { pc = r.pc; stack0 = r.stack0; stack1 = r.stack1; stack2 = r.stack2; stack3 = r.stack3; flags = r.flags; si = r.si; siack = r.siack; depth = r.depth; a = r.a; b = r.b; k = r.k; l = r.l; tr = r.tr; dr = x; so = r.so; dp = r.dp; rp = r.rp; sr = r.sr; soack = r.soack; sorq = r.sorq }

abbrev pub set_so : Registers → ℕ → Registers
set_so r x = record { pc = r.pc; stack0 = r.stack0; stack1 = r.stack1; stack2 = r.stack2; stack3 = r.stack3; flags = r.flags; si = r.si; siack = r.siack; depth = r.depth; a = r.a; b = r.b; k = r.k; l = r.l; tr = r.tr; dr = r.dr; so = x; dp = r.dp; rp = r.rp; sr = r.sr; soack = r.soack; sorq = r.sorq }

abbrev pub set_dp : Registers → RamPointer → Registers
set_dp r x = record { pc = r.pc; stack0 = r.stack0; stack1 = r.stack1; stack2 = r.stack2; stack3 = r.stack3; flags = r.flags; si = r.si; siack = r.siack; depth = r.depth; a = r.a; b = r.b; k = r.k; l = r.l; tr = r.tr; dr = r.dr; so = r.so; dp = x; rp = r.rp; sr = r.sr; soack = r.soack; sorq = r.sorq }

abbrev pub set_rp : Registers → RomPointer → Registers
set_rp r x = record { pc = r.pc; stack0 = r.stack0; stack1 = r.stack1; stack2 = r.stack2; stack3 = r.stack3; flags = r.flags; si = r.si; siack = r.siack; depth = r.depth; a = r.a; b = r.b; k = r.k; l = r.l; tr = r.tr; dr = r.dr; so = r.so; dp = r.dp; rp = x; sr = r.sr; soack = r.soack; sorq = r.sorq }

abbrev pub set_sr : Registers → ℕ → Registers
set_sr r x = record { pc = r.pc; stack0 = r.stack0; stack1 = r.stack1; stack2 = r.stack2; stack3 = r.stack3; flags = r.flags; si = r.si; siack = r.siack; depth = r.depth; a = r.a; b = r.b; k = r.k; l = r.l; tr = r.tr; dr = r.dr; so = r.so; dp = r.dp; rp = r.rp; sr = x; soack = r.soack; sorq = r.sorq }

abbrev pub set_soack : Registers → Bool → Registers
set_soack r x = record { pc = r.pc; stack0 = r.stack0; stack1 = r.stack1; stack2 = r.stack2; stack3 = r.stack3; flags = r.flags; si = r.si; siack = r.siack; depth = r.depth; a = r.a; b = r.b; k = r.k; l = r.l; tr = r.tr; dr = r.dr; so = r.so; dp = r.dp; rp = r.rp; sr = r.sr; soack = x; sorq = r.sorq }

abbrev pub set_sorq : Registers → Bool → Registers
set_sorq r x = record { pc = r.pc; stack0 = r.stack0; stack1 = r.stack1; stack2 = r.stack2; stack3 = r.stack3; flags = r.flags; si = r.si; siack = r.siack; depth = r.depth; a = r.a; b = r.b; k = r.k; l = r.l; tr = r.tr; dr = r.dr; so = r.so; dp = r.dp; rp = r.rp; sr = r.sr; soack = r.soack; sorq = x }
