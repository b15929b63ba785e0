-- SR's bits: 01, "SR bits: 15 RQM, 14 USF1, 13 USF0, 12 DRS, 11 DMA, 10 DRC, 9 SOC, 8 SIC, 7 EI, 1 P1, 0 P0".
use Rattle.std.specs.Prelude.{ℕ, ◌+◌, Bool, ◌==◌}
use Rattle.numbers.specs.Bits.{bits, at}

abbrev pub rqm : ℕ → Bool
rqm sr = bits sr 15 15 == 1

abbrev pub drs : ℕ → Bool
drs sr = bits sr 12 12 == 1

abbrev pub drc : ℕ → Bool
drc sr = bits sr 10 10 == 1

abbrev pub ei : ℕ → Bool
ei sr = bits sr 7 7 == 1

abbrev pub with_rqm : ℕ → ℕ
with_rqm sr = at 15 1 + bits sr 14 0

abbrev pub without_rqm : ℕ → ℕ
without_rqm sr = bits sr 14 0

abbrev pub with_drs : ℕ → ℕ
with_drs sr = at 13 (bits sr 15 13) + at 12 1 + bits sr 11 0

abbrev pub without_drs : ℕ → ℕ
without_drs sr = at 13 (bits sr 15 13) + bits sr 11 0

abbrev pub without_ei : ℕ → ℕ
without_ei sr = at 8 (bits sr 15 8) + bits sr 6 0

-- "SR keeps bits 15, 12 and 6 to 2" and takes the others from the bus
abbrev pub status_loaded : ℕ → ℕ → ℕ
status_loaded sr bus = at 15 (bits sr 15 15) + at 13 (bits bus 14 13) + at 12 (bits sr 12 12) + at 7 (bits bus 11 7) + at 2 (bits sr 6 2) + bits bus 1 0
