-- The register record as a list, one place for each register of 01 in its order: the setters' laws (Set.antt) are said of it.
-- Assumes nothing.
use Rattle.std.proofs.Common.{ℕ, Bool, List, [], ◌∷◌}
use Rattle.alu.specs.declared.Flags.{Flags}
use Rattle.device.specs.declared.pointers.InstructionAddress.{InstructionAddress}
use Rattle.device.specs.declared.pointers.RamPointer.{RamPointer}
use Rattle.device.specs.declared.pointers.RomPointer.{RomPointer}
use Rattle.device.specs.declared.registers.Registers.{Registers}

-- what a place holds
pub data Content : Type 0 where
  address : InstructionAddress → Content
  ram_pointer : RamPointer → Content
  rom_pointer : RomPointer → Content
  number : ℕ → Content
  flags : Flags → Content
  mark : Bool → Content

abbrev pub places : Registers → List Content
places r =
    address r.pc ∷ address r.stack0 ∷ address r.stack1 ∷ address r.stack2 ∷ address r.stack3 ∷ number r.depth
    ∷ number r.a ∷ number r.b ∷ number r.k ∷ number r.l ∷ number r.tr ∷ number r.dr ∷ number r.si ∷ number r.so
    ∷ ram_pointer r.dp ∷ rom_pointer r.rp ∷ number r.sr
    ∷ flags r.flags.a ∷ flags r.flags.b ∷ mark r.siack ∷ mark r.soack ∷ mark r.sorq ∷ []
