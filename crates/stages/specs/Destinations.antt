-- The destination: 01, "Destinations keep the low bits they hold ..".
use Rattle.std.specs.Prelude.{ℕ, ◌+◌, Bool, true, false, cond, ◌&&◌, List, set}
use Rattle.numbers.specs.Bits.{bits, at}
use Rattle.numbers.specs.Reversal.{reversed16}
use Rattle.device.specs.Device.{chip, cell_value}
use Rattle.device.specs.Pointers.{ram_pointer_of, rom_pointer_of}
use Rattle.device.specs.Set.{set_a, set_b, set_k, set_l, set_tr, set_dr, set_so, set_dp, set_rp, set_sr, set_soack, set_sorq}
use Rattle.device.specs.declared.pointers.RamPointer.{RamPointer}
use Rattle.device.specs.declared.pointers.RomPointer.{RomPointer}
use Rattle.device.specs.declared.registers.Registers.{Registers}
use Rattle.device.specs.Lent.{rom_at, ram_at}
use Rattle.status.specs.Status.{with_rqm, status_loaded}
use Rattle.codes.specs.Codes.{destination_code, is_destination}
use Rattle.codes.specs.declared.Destination.{Destination}
use Rattle.codes.specs.declared.Destination.TheVariants as Dst

-- "both set SORQ and clear SOACK"
abbrev pub sent : Registers → ℕ → Registers
sent q word = set_soack (set_sorq (set_so q word) true) false

-- "RAM at DP with bit 6 set to 1": the address has bit 6 set; bit 7, which the larger chip has, stays
abbrev pub klm_address : RamPointer → RamPointer
klm_address dp = record { 0 = at 7 (bits dp.0 15 7) + at 6 1 + bits dp.0 5 0 }

-- q with the bus in the destination. dp, rp and ram are those before the word, and so is SR but for RQM, which is 1 if DR was the source
unfoldable pub loaded : Bool → RamPointer → RomPointer → Registers → Destination → ℕ → List ℕ → List ℕ → Registers
loaded large dp rp q Dst.None bus ram rom = q
loaded large dp rp q Dst.A bus ram rom = set_a q bus
loaded large dp rp q Dst.B bus ram rom = set_b q bus
loaded large dp rp q Dst.Tr bus ram rom = set_tr q bus
loaded large dp rp q Dst.Dp bus ram rom = set_dp q (ram_pointer_of (chip large) bus)
loaded large dp rp q Dst.Rp bus ram rom = set_rp q (rom_pointer_of (chip large) bus)
-- "DR sets RQM"
loaded large dp rp q Dst.Dr bus ram rom = set_sr (set_dr q bus) (with_rqm q.sr)
loaded large dp rp q Dst.Sr bus ram rom = set_sr q (status_loaded q.sr bus)
-- "SOM stores the bus, SOL the bus reversed"
loaded large dp rp q Dst.Sol bus ram rom = sent q (reversed16 bus)
loaded large dp rp q Dst.Som bus ram rom = sent q bus
loaded large dp rp q Dst.K bus ram rom = set_k q bus
-- "KLR: K from bus, L from data ROM at RP times 8. KLM: L from bus, K from RAM at DP with bit 6 set to 1"
loaded large dp rp q Dst.Klr bus ram rom = set_l (set_k q bus) (cell_value (chip large) (rom_at rom rp))
loaded large dp rp q Dst.Klm bus ram rom = set_l (set_k q (ram_at ram (klm_address dp))) bus
loaded large dp rp q Dst.L bus ram rom = set_l q bus
loaded large dp rp q Dst.NoneOrTrb bus ram rom = q
loaded large dp rp q Dst.Mem bus ram rom = q

-- 002, section 2, table 13: destination 14 is TRB on the larger chip, which keeps it beside the registers
abbrev pub trb_loaded : Bool → ℕ → ℕ → ℕ → ℕ
trb_loaded large trb dst bus = cond (large && is_destination dst Dst.NoneOrTrb) bus trb

-- "MEM: RAM at DP"
unfoldable pub ram_loaded : RamPointer → Destination → ℕ → List ℕ → List ℕ
ram_loaded dp d bus ram = cond (is_destination (destination_code d) Dst.Mem) (set ram dp.0 bus) ram
