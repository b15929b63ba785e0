-- Each setter changes the place of its own register, and no other. Made by tools/setters from Places.antt.
-- Assumes nothing.
use Rattle.std.proofs.Common.{◌≡◌, ℕ, Bool, set, refl}
use Rattle.device.specs.Set.{set_pc, set_stack0, set_stack1, set_stack2, set_stack3, set_flags_a, set_flags_b, set_si, set_siack, set_depth, set_a, set_b, set_k, set_l, set_tr, set_dr, set_so, set_dp, set_rp, set_sr, set_soack, set_sorq}
use Rattle.alu.specs.declared.Flags.{Flags}
use Rattle.device.specs.declared.pointers.InstructionAddress.{InstructionAddress}
use Rattle.device.specs.declared.pointers.RamPointer.{RamPointer}
use Rattle.device.specs.declared.pointers.RomPointer.{RomPointer}
use Rattle.device.specs.declared.registers.Registers.{Registers}
use Rattle.device.proofs.Places.{address, ram_pointer, rom_pointer, number, flags, mark, places}

pub set_pc-sets : (r : Registers) (x : InstructionAddress) → places (set_pc r x) ≡ set (places r) 0 (address x)
set_pc-sets r x = refl

pub set_stack0-sets : (r : Registers) (x : InstructionAddress) → places (set_stack0 r x) ≡ set (places r) 1 (address x)
set_stack0-sets r x = refl

pub set_stack1-sets : (r : Registers) (x : InstructionAddress) → places (set_stack1 r x) ≡ set (places r) 2 (address x)
set_stack1-sets r x = refl

pub set_stack2-sets : (r : Registers) (x : InstructionAddress) → places (set_stack2 r x) ≡ set (places r) 3 (address x)
set_stack2-sets r x = refl

pub set_stack3-sets : (r : Registers) (x : InstructionAddress) → places (set_stack3 r x) ≡ set (places r) 4 (address x)
set_stack3-sets r x = refl

pub set_flags_a-sets : (r : Registers) (x : Flags) → places (set_flags_a r x) ≡ set (places r) 17 (flags x)
set_flags_a-sets r x = refl

pub set_flags_b-sets : (r : Registers) (x : Flags) → places (set_flags_b r x) ≡ set (places r) 18 (flags x)
set_flags_b-sets r x = refl

pub set_si-sets : (r : Registers) (x : ℕ) → places (set_si r x) ≡ set (places r) 12 (number x)
set_si-sets r x = refl

pub set_siack-sets : (r : Registers) (x : Bool) → places (set_siack r x) ≡ set (places r) 19 (mark x)
set_siack-sets r x = refl

pub set_depth-sets : (r : Registers) (x : ℕ) → places (set_depth r x) ≡ set (places r) 5 (number x)
set_depth-sets r x = refl

pub set_a-sets : (r : Registers) (x : ℕ) → places (set_a r x) ≡ set (places r) 6 (number x)
set_a-sets r x = refl

pub set_b-sets : (r : Registers) (x : ℕ) → places (set_b r x) ≡ set (places r) 7 (number x)
set_b-sets r x = refl

pub set_k-sets : (r : Registers) (x : ℕ) → places (set_k r x) ≡ set (places r) 8 (number x)
set_k-sets r x = refl

pub set_l-sets : (r : Registers) (x : ℕ) → places (set_l r x) ≡ set (places r) 9 (number x)
set_l-sets r x = refl

pub set_tr-sets : (r : Registers) (x : ℕ) → places (set_tr r x) ≡ set (places r) 10 (number x)
set_tr-sets r x = refl

pub set_dr-sets : (r : Registers) (x : ℕ) → places (set_dr r x) ≡ set (places r) 11 (number x)
set_dr-sets r x = refl

pub set_so-sets : (r : Registers) (x : ℕ) → places (set_so r x) ≡ set (places r) 13 (number x)
set_so-sets r x = refl

pub set_dp-sets : (r : Registers) (x : RamPointer) → places (set_dp r x) ≡ set (places r) 14 (ram_pointer x)
set_dp-sets r x = refl

pub set_rp-sets : (r : Registers) (x : RomPointer) → places (set_rp r x) ≡ set (places r) 15 (rom_pointer x)
set_rp-sets r x = refl

pub set_sr-sets : (r : Registers) (x : ℕ) → places (set_sr r x) ≡ set (places r) 16 (number x)
set_sr-sets r x = refl

pub set_soack-sets : (r : Registers) (x : Bool) → places (set_soack r x) ≡ set (places r) 20 (mark x)
set_soack-sets r x = refl

pub set_sorq-sets : (r : Registers) (x : Bool) → places (set_sorq r x) ≡ set (places r) 21 (mark x)
set_sorq-sets r x = refl
