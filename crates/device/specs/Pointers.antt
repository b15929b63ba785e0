-- Instruction address, RAM pointer and data ROM pointer, kept apart: the width and the steps of each.
use Rattle.std.specs.Prelude.{ℕ, ◌+◌, ◌-◌, ◌*◌, ◌/◌, ◌%◌, Bool, [], ◌∷◌, bit_xor, nat_lt, slice_index_or}
use Rattle.device.specs.Device.{Device}
use Rattle.device.specs.declared.pointers.InstructionAddress.{InstructionAddress}
use Rattle.device.specs.declared.pointers.RamPointer.{RamPointer}
use Rattle.device.specs.declared.pointers.RomPointer.{RomPointer}

-- "PC, .. DP or RP too wide": each is as wide as what it points into is long
abbrev pub address_fits : Device → InstructionAddress → Bool
address_fits device pc = nat_lt pc.0 device.words

abbrev pub ram_pointer_fits : Device → RamPointer → Bool
ram_pointer_fits device dp = nat_lt dp.0 device.ram

abbrev pub rom_pointer_fits : Device → RomPointer → Bool
rom_pointer_fits device rp = nat_lt rp.0 device.cells

-- "PC goes up by one, 511 to 0"
abbrev pub next_address : Device → InstructionAddress → InstructionAddress
next_address device pc = record { 0 = (pc.0 + 1) % device.words }

-- "RPDCR takes one from RP, 0 to 511"
abbrev pub rom_pointer_down : Device → RomPointer → RomPointer
rom_pointer_down device rp = record { 0 = (rp.0 + (device.cells - 1)) % device.cells }

-- "DPL 0 to 3: keep, up, down, clear the low four bits of DP, without carry into the row"
abbrev pub low_after : ℕ → ℕ → ℕ
low_after dpl low = slice_index_or (low ∷ (low + 1) % 16 ∷ (low + 15) % 16 ∷ 0 ∷ []) dpl low

-- and "DPH-M is exclusive-ored into bits 6 to 4": a row of the device stays one
unfoldable pub ram_pointer_moved : ℕ → ℕ → RamPointer → RamPointer
ram_pointer_moved dpl dphm dp = record { 0 = bit_xor (dp.0 / 16) dphm * 16 + low_after dpl (dp.0 % 16) }

-- "Destinations keep the low bits they hold"
abbrev pub ram_pointer_of : Device → ℕ → RamPointer
ram_pointer_of device bus = record { 0 = bus % device.ram }

abbrev pub rom_pointer_of : Device → ℕ → RomPointer
rom_pointer_of device bus = record { 0 = bus % device.cells }
