-- What stands where each pointer points, in the list that it points into; 0 beyond the end, where no pointer that fits ever points.
use Rattle.std.specs.Prelude.{ℕ, List, slice_index}
use Rattle.device.specs.declared.pointers.InstructionAddress.{InstructionAddress}
use Rattle.device.specs.declared.pointers.RamPointer.{RamPointer}
use Rattle.device.specs.declared.pointers.RomPointer.{RomPointer}

abbrev pub word_at : List ℕ → InstructionAddress → ℕ
word_at program pc = slice_index program pc.0

abbrev pub rom_at : List ℕ → RomPointer → ℕ
rom_at rom rp = slice_index rom rp.0

abbrev pub ram_at : List ℕ → RamPointer → ℕ
ram_at ram dp = slice_index ram dp.0
