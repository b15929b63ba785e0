-- The pointers: 01, "DPL 0 to 3: keep, up, down, clear ..".
use Rattle.std.specs.Prelude.{Bool, cond, ◌==◌}
use Rattle.device.specs.Device.{chip}
use Rattle.device.specs.Pointers.{ram_pointer_moved, rom_pointer_down}
use Rattle.device.specs.Set.{set_dp, set_rp}
use Rattle.device.specs.declared.pointers.RamPointer.{RamPointer}
use Rattle.device.specs.declared.pointers.RomPointer.{RomPointer}
use Rattle.device.specs.declared.registers.Registers.{Registers}
use Rattle.word.specs.declared.OpFields.{OpFields}
use Rattle.codes.specs.Codes.{is_destination}
use Rattle.codes.specs.declared.Destination.TheVariants as Dst

-- DP after the word: what was loaded, if DST is DP, else dp moved. "Both are ignored if DST is DP"
abbrev pub dp_after : RamPointer → RamPointer → OpFields → RamPointer
dp_after dp kept f = cond (is_destination f.dst Dst.Dp) kept (ram_pointer_moved f.dpl f.dphm dp)

-- RP after the word: "RPDCR takes one from RP, .. ignored if DST is RP"
abbrev pub rp_after : Bool → RomPointer → RomPointer → OpFields → RomPointer
rp_after large rp kept f = cond (is_destination f.dst Dst.Rp) kept (cond (f.rpdcr == 0) rp (rom_pointer_down (chip large) rp))

-- q with its pointers moved; dp and rp are those before the word
unfoldable pub pointed : Bool → RamPointer → RomPointer → Registers → OpFields → Registers
pointed large dp rp q f = set_rp (set_dp q (dp_after dp q.dp f)) (rp_after large rp q.rp f)
