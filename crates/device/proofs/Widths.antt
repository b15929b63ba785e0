-- Each step keeps its pointer's width; what a pointer holds, it keeps where nothing moves it.
-- Assumes nothing.
use Rattle.std.proofs.Common.{◌≡◌, ℕ, zero, suc, ◌+◌, ◌-◌, ◌*◌, ◌/◌, ◌%◌, ◌^◌, ◌<◌, Bool, true, false, cond, refl, mod-lt, arith}
use lib.Bits.{bit_xor, xor_lt, xor_zero_r}
use Rattle.device.specs.Device.{Device, chip}
use Rattle.device.specs.Pointers.{next_address, rom_pointer_down, low_after, ram_pointer_moved, ram_pointer_of, rom_pointer_of}
use Rattle.device.specs.declared.pointers.InstructionAddress.{InstructionAddress}
use Rattle.device.specs.declared.pointers.RamPointer.{RamPointer}
use Rattle.device.specs.declared.pointers.RomPointer.{RomPointer}

-- the place in a row stays one
pub low_after-lt : (dpl low : ℕ) → low < 16 → low_after dpl low < 16
low_after-lt zero low h = h
low_after-lt (suc zero) low h = omega arith
low_after-lt (suc (suc zero)) low h = omega arith
low_after-lt (suc (suc (suc zero))) low h = omega arith
low_after-lt (suc (suc (suc (suc dpl)))) low h = h

module _ (device : Device) where
  pub next_address-fits : 0 < device.words → (pc : InstructionAddress) → (next_address device pc).0 < device.words
  next_address-fits h pc = mod-lt (pc.0 + 1) h

  pub rom_pointer_down-fits : 0 < device.cells → (rp : RomPointer) → (rom_pointer_down device rp).0 < device.cells
  rom_pointer_down-fits h rp = mod-lt (rp.0 + (device.cells - 1)) h

  pub rom_pointer_of-fits : 0 < device.cells → (bus : ℕ) → (rom_pointer_of device bus).0 < device.cells
  rom_pointer_of-fits h bus = mod-lt bus h

  pub ram_pointer_of-fits : 0 < device.ram → (bus : ℕ) → (ram_pointer_of device bus).0 < device.ram
  ram_pointer_of-fits h bus = mod-lt bus h

-- RAM is made of 2 ^ k rows of 16 cells, and DPH-M names one of them
pub ram_pointer_moved-fits : (k dpl dphm : ℕ) (dp : RamPointer) → dp.0 < 2 ^ k * 16 → dphm < 2 ^ k → (ram_pointer_moved dpl dphm dp).0 < 2 ^ k * 16
unfolding ram_pointer_moved
ram_pointer_moved-fits k dpl dphm dp h l = omega (arith, xor_lt k (dp.0 / 16) dphm (omega arith) l, low_after-lt dpl (dp.0 % 16) (omega arith))

-- DPL 0 with DPH-M 0 keeps DP
pub ram_pointer_moved-still : (dp : RamPointer) → ram_pointer_moved 0 0 dp ≡ dp
unfolding ram_pointer_moved
ram_pointer_moved-still dp = λ i. record { 0 = same i }
  where
    same : bit_xor (dp.0 / 16) 0 * 16 + dp.0 % 16 ≡ dp.0
    same = rw (xor_zero_r (dp.0 / 16)) (omega arith)

-- ---- the sizes of either chip

-- DPH-M has three bits, or four, and names one of so many rows
abbrev pub row_bits : Bool → ℕ
row_bits large = cond large 4 3

pub ram-rows : (large : Bool) → (chip large).ram ≡ 2 ^ row_bits large * 16
ram-rows true = refl
ram-rows false = refl

-- 100H is an instruction word
pub words-some : (large : Bool) → 256 < (chip large).words
words-some true = omega arith
words-some false = omega arith

pub cells-some : (large : Bool) → 0 < (chip large).cells
cells-some true = omega arith
cells-some false = omega arith

pub ram-some : (large : Bool) → 0 < (chip large).ram
ram-some true = omega arith
ram-some false = omega arith

pub stack-four : (large : Bool) → (chip large).stack ≡ 4
stack-four true = refl
stack-four false = refl
