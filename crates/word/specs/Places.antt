-- The places of the uPD77C25's fields as 002, section 2, counts them: D23 is the top bit.
use Rattle.std.specs.Prelude.{ℕ, ◌≡◌, true}
use Rattle.numbers.specs.Bits.{bits}
use Rattle.word.specs.Fields.{aligned, op_fields, ldi_fields}

-- tables 5 to 11 and 13: "P-select D21-D20", ALU D19-D16, ASL D15, DPL D14-D13, "4 bits (D12-D9)", RPDCR D8, SRC D7-D4, DST D3-D0
abbrev pub OpPlaces : Type 0
OpPlaces =
    (w : ℕ)
    → op_fields true w ≡ record { psel = bits w 21 20; alu = bits w 19 16; asl = bits w 15 15; dpl = bits w 14 13; dphm = bits w 12 9; rpdcr = bits w 8 8; src = bits w 7 4; dst = bits w 3 0 }

-- the sister chip's tables 3 and 14: the row D23-D22, ID D21-D6; the spare bits are those that no field takes
abbrev pub RowPlaces : Type 0
RowPlaces = (w : ℕ) → bits (aligned true w) 22 21 ≡ bits w 23 22

abbrev pub LdiPlaces : Type 0
LdiPlaces = (w : ℕ) → ldi_fields true w ≡ record { id = bits w 21 6; spare = bits w 5 4; dst = bits w 3 0 }
