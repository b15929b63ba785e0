-- The bus: 01, "Bus: DP and RP fill with zeros ..".
use Rattle.std.specs.Prelude.{ℕ, Bool, false, cond, ◌||◌, List}
use Rattle.numbers.specs.Reversal.{reversed16}
use Rattle.alu.specs.Flags.{sgn_of}
use Rattle.device.specs.Device.{chip, cell_value}
use Rattle.device.specs.Set.{set_sr, set_siack}
use Rattle.device.specs.declared.registers.Registers.{Registers}
use Rattle.device.specs.Lent.{rom_at, ram_at}
use Rattle.status.specs.Status.{with_rqm}
use Rattle.codes.specs.Codes.{source_code, is_source}
use Rattle.codes.specs.declared.Source.{Source}
use Rattle.codes.specs.declared.Source.TheVariants as Src

-- what a source puts on the bus; r and trb are the registers and TRB, which only the larger chip has
unfoldable pub bus_of : Bool → Registers → ℕ → Source → List ℕ → List ℕ → ℕ
-- no source puts 0 there, and refusal 6 turns away every word that would look; 002, section 2, table 11: TRB
bus_of large r trb Src.NoneOrTrb ram rom = cond large trb 0
bus_of large r trb Src.A ram rom = r.a
bus_of large r trb Src.B ram rom = r.b
bus_of large r trb Src.Tr ram rom = r.tr
bus_of large r trb Src.Dp ram rom = r.dp.0
bus_of large r trb Src.Rp ram rom = r.rp.0
-- "RO is the cell times 8"; the cell as it is on the larger chip
bus_of large r trb Src.Ro ram rom = cell_value (chip large) (rom_at rom r.rp)
-- "SGN is 7FFFH if A's S1 is 1, else 8000H"
bus_of large r trb Src.Sgn ram rom = sgn_of r.flags.a.s1
bus_of large r trb Src.Dr ram rom = r.dr
bus_of large r trb Src.Drnf ram rom = r.dr
bus_of large r trb Src.Sr ram rom = r.sr
-- "SIL is SI with all 16 bits reversed; SIM is SI as it is"
bus_of large r trb Src.Sim ram rom = r.si
bus_of large r trb Src.Sil ram rom = reversed16 r.si
bus_of large r trb Src.K ram rom = r.k
bus_of large r trb Src.L ram rom = r.l
-- "MEM is RAM at DP"
bus_of large r trb Src.Mem ram rom = ram_at ram r.dp

-- "Reading DR sets RQM; DRNF doesn't. SIM and SIL clear SIACK."
unfoldable pub read_from : Registers → Source → Registers
read_from r s =
    cond (is_source (source_code s) Src.Dr) (set_sr r (with_rqm r.sr))
    (cond (is_source (source_code s) Src.Sim || is_source (source_code s) Src.Sil) (set_siack r false) r)
