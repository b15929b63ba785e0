-- The host's port, events 1 and 2: 01, "host reads data", "host writes value".
use Rattle.std.specs.Prelude.{ℕ, ◌+◌, Bool, cond, not, ◌&&◌}
use Rattle.numbers.specs.Bits.{bits, at}
use Rattle.device.specs.Set.{set_dr, set_sr}
use Rattle.device.specs.declared.registers.Registers.{Registers}
use Rattle.status.specs.Status.{drs, drc, with_drs, without_drs, without_rqm}

-- "With DRC 0 the low byte goes first (DRS 0) ..; the high byte (DRS 1)"; "With DRC 1 the low byte only"
abbrev pub high_byte : ℕ → Bool
high_byte sr = not (drc sr) && drs sr

-- "With DRC 0 the low byte .. sets DRS; the high byte clears DRS and RQM. With DRC 1 .. RQM cleared, while DRS .. stay[s]"
unfoldable pub status_accessed : ℕ → ℕ
status_accessed sr = cond (drc sr) (without_rqm sr) (cond (drs sr) (without_drs (without_rqm sr)) (with_drs sr))

-- the byte that is handed
unfoldable pub byte_read : Registers → ℕ
byte_read r = cond (high_byte r.sr) (bits r.dr 15 8) (bits r.dr 7 0)

-- DR with a byte written; the other byte stays
unfoldable pub dr_written : Registers → ℕ → ℕ
dr_written r byte = cond (high_byte r.sr) (at 8 byte + bits r.dr 7 0) (at 8 (bits r.dr 15 8) + byte)

abbrev pub host_read : Registers → Registers
host_read r = set_sr r (status_accessed r.sr)

abbrev pub host_written : Registers → ℕ → Registers
host_written r byte = set_sr (set_dr r (dr_written r byte)) (status_accessed r.sr)
