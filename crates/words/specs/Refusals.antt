-- Which words are refused: 01, "Replies", and 02, E8 and E10. In each row the tests stand in the order of `Order`.
use Rattle.std.specs.Prelude.{ℕ, Bool, false, cond, not, ◌&&◌, ◌||◌, List, nat_le, ◌==◌}
use Rattle.device.specs.Device.{chip, cell_fits}
use Rattle.device.specs.declared.registers.Registers.{Registers}
use Rattle.device.specs.Lent.{rom_at}
use Rattle.word.specs.Fields.{select, branch}
use Rattle.word.specs.declared.OpFields.{OpFields}
use Rattle.word.specs.JumpCodes.{branch_of}
use Rattle.word.specs.declared.LdiFields.{LdiFields}
use Rattle.word.specs.declared.Word.{Word}
use Rattle.word.specs.declared.Word.TheVariants.{Op, Rt, Jp, JpCode, Ldi}
use Rattle.codes.specs.Codes.{is_source, is_destination}
use Rattle.codes.specs.declared.Source.TheVariants as Src
use Rattle.codes.specs.declared.Destination.TheVariants as Dst

-- refusal 5: "BRCH none of 010, 100, 101"; 02, E10: "given for every jump code that the section doesn't list", which is no branch either
abbrev pub branch_unknown : Word → Bool
branch_unknown word = not (branch_of word == branch.conditional || branch_of word == branch.jump || branch_of word == branch.call)

-- refusal 18: "Words taken from an image for running must have spare bits 0, and CND 0 under an unconditional jump or a call". OP and RT
-- words have no spare bits. E10: "18 looks at the spare bits only" on the larger chip
abbrev pub unconditional : Word → Bool
unconditional word = branch_of word == branch.jump || branch_of word == branch.call

abbrev pub unused_bits : Word → Bool
unused_bits (Op f) = false
unused_bits (Rt f) = false
unused_bits (Jp f) = not (f.spare == 0) || (unconditional (Jp f) && not (f.cnd == 0))
unused_bits (JpCode f) = not (f.spare == 0)
unused_bits (Ldi f) = not (f.spare == 0)

-- refusal 6: "SRC none in an OP or RT word, and either DST is not 0 or 14, or the ALU operation is 1 to 7 with P-select bus"; E10: on the larger chip it
-- "never occurs .., because source 0 is TRB"
abbrev pub sends_bus : OpFields → Bool
sends_bus f = not (is_destination f.dst Dst.None || is_destination f.dst Dst.NoneOrTrb)

abbrev pub operates_on_bus : OpFields → Bool
operates_on_bus f = nat_le 1 f.alu && nat_le f.alu 7 && f.psel == select.bus

abbrev pub source_missing : Bool → OpFields → Bool
source_missing large f = not large && (is_source f.src Src.NoneOrTrb && (sends_bus f || operates_on_bus f))

-- refusal 7: "SRC is RO, or DST is KLR (LDI too), and the data ROM cell at RP is 8192 or more"
abbrev pub cell_too_wide : Bool → Registers → List ℕ → Bool
cell_too_wide large r rom = not (cell_fits (chip large) (rom_at rom r.rp))

abbrev pub uses_cell : OpFields → Bool
uses_cell f = is_source f.src Src.Ro || is_destination f.dst Dst.Klr

-- refusal 8: "RT at depth 0"
abbrev pub nothing_to_pop : Bool → Registers → Bool
nothing_to_pop rt r = rt && r.depth == 0

-- refusal 9: "call, or interrupt taken, at depth 4"
abbrev pub stack_full : Bool → Registers → Bool
stack_full large r = nat_le (chip large).stack r.depth

unfoldable pub op_refusal : Bool → Bool → Registers → OpFields → List ℕ → ℕ
op_refusal large rt r f rom =
    cond (source_missing large f) 6
    (cond (uses_cell f && cell_too_wide large r rom) 7
    (cond (nothing_to_pop rt r) 8 0))

unfoldable pub jp_refusal : Bool → Registers → Word → ℕ
jp_refusal large r word =
    cond (branch_unknown word) 5
    (cond (unused_bits word) 18
    (cond (branch_of word == branch.call && stack_full large r) 9 0))

unfoldable pub ldi_refusal : Bool → Registers → LdiFields → List ℕ → ℕ
ldi_refusal large r f rom =
    cond (unused_bits (Ldi f)) 18
    (cond (is_destination f.dst Dst.Klr && cell_too_wide large r rom) 7 0)
