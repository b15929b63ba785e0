-- The fields of a word by the places that 01's table gives them: 01, "Taking a word apart (D22 is the top bit)"; and by those of the uPD77C25, from 002,
-- section 2, tables 5 to 14 and, for what the figures lost there, tables 3, 13 and 14 of the sister chip (docs/DIFFERENCES.md).
use Rattle.std.specs.Prelude.{ℕ, ◌+◌, ◌*◌, ◌/◌, Bool, cond, ◌&&◌}
use Rattle.numbers.specs.Bits.{bits, holds, at}
use Rattle.word.specs.declared.OpFields.{OpFields}
use Rattle.word.specs.declared.JpFields.{JpFields}
use Rattle.word.specs.declared.CodeFields.{CodeFields}
use Rattle.word.specs.declared.LdiFields.{LdiFields}

-- "P-select 0 to 3: RAM, bus, M, N"
abbrev pub select : record { ram : ℕ; bus : ℕ; m : ℕ; n : ℕ }
select = record { ram = 0; bus = 1; m = 2; n = 3 }

-- "BRCH 100 jumps, 101 calls .., 010 jumps on CND"
abbrev pub branch : record { conditional : ℕ; jump : ℕ; call : ℕ }
branch = record { conditional = 2; jump = 4; call = 5 }

-- DPH-M of the uPD77C25 has a bit more, so that what stands above it stands a place higher: without its lowest bit a word has it where 01's table
-- has it, and a number that is built for that table is doubled. `Places` has the places as 002 counts them
abbrev pub aligned : Bool → ℕ → ℕ
aligned large w = cond large (w / 2) w

abbrev pub raised : Bool → ℕ → ℕ
raised large n = cond large (2 * n) n

-- OP and RT: "P-select D20-19, ALU D18-15, ASL D14 (0 = A), DPL D13-12, DPH-M D11-9, RPDCR D8, SRC D7-4, DST D3-0"; uPD77C25: DPH-M D12-9
abbrev pub op_fields : Bool → ℕ → OpFields
op_fields large w =
    let v = aligned large w in
    record { psel = bits v 20 19; alu = bits v 18 15; asl = bits v 14 14; dpl = bits v 13 12; dphm = cond large (bits w 12 9) (bits w 11 9); rpdcr = bits w 8 8; src = bits w 7 4; dst = bits w 3 0 }

abbrev pub op_holds : Bool → OpFields → Bool
op_holds large f =
    holds 20 19 f.psel && holds 18 15 f.alu && holds 14 14 f.asl && holds 13 12 f.dpl && cond large (holds 12 9 f.dphm) (holds 11 9 f.dphm)
    && holds 8 8 f.rpdcr && holds 7 4 f.src && holds 3 0 f.dst

abbrev pub op_bits : Bool → OpFields → ℕ
op_bits large f =
    raised large (at 19 f.psel + at 15 f.alu + at 14 f.asl + at 12 f.dpl) + (at 9 f.dphm + at 8 f.rpdcr + at 4 f.src + f.dst)

-- JP of the uPD77P20: "BRCH D20-18, CND D17-13, NA D12-4, spare D3-0"
abbrev pub jp_fields : ℕ → JpFields
jp_fields w = record { brch = bits w 20 18; cnd = bits w 17 13; na = bits w 12 4; spare = bits w 3 0 }

abbrev pub jp_holds : JpFields → Bool
jp_holds f = holds 20 18 f.brch && holds 17 13 f.cnd && holds 12 4 f.na && holds 3 0 f.spare

abbrev pub jp_bits : JpFields → ℕ
jp_bits f = at 18 f.brch + at 13 f.cnd + at 4 f.na + f.spare

-- JP of the uPD77C25: jump and condition are one code, D21-13; NA D12-2, spare D1-0
abbrev pub code_fields : ℕ → CodeFields
code_fields w = record { code = bits w 21 13; na = bits w 12 2; spare = bits w 1 0 }

abbrev pub code_holds : CodeFields → Bool
code_holds f = holds 21 13 f.code && holds 12 2 f.na && holds 1 0 f.spare

abbrev pub code_bits : CodeFields → ℕ
code_bits f = at 13 f.code + at 2 f.na + f.spare

-- LDI: "ID D20-5, spare D4, DST D3-0"; uPD77C25: ID D21-6, spare D5-4
abbrev pub ldi_fields : Bool → ℕ → LdiFields
ldi_fields large w = record { id = bits (aligned large w) 20 5; spare = cond large (bits w 5 4) (bits w 4 4); dst = bits w 3 0 }

abbrev pub ldi_holds : Bool → LdiFields → Bool
ldi_holds large f = holds 20 5 f.id && cond large (holds 5 4 f.spare) (holds 4 4 f.spare) && holds 3 0 f.dst

abbrev pub ldi_bits : Bool → LdiFields → ℕ
ldi_bits large f = raised large (at 5 f.id) + at 4 f.spare + f.dst
