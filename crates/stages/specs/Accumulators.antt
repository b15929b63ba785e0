-- The ALU's part of a word: 01, "If the chosen accumulator is also the destination ..".
use Rattle.std.specs.Prelude.{ℕ, Bool, cond, List, [], ◌∷◌, ◌==◌, slice_index_or}
use Rattle.alu.specs.Operations.{operation_of, operated}
use Rattle.alu.specs.declared.Accumulator.{Accumulator}
use Rattle.multiplier.specs.Product.{m_of, n_of}
use Rattle.device.specs.Set.{set_a, set_b, set_flags_a, set_flags_b}
use Rattle.device.specs.declared.registers.Registers.{Registers}
use Rattle.word.specs.declared.OpFields.{OpFields}
use Rattle.codes.specs.Codes.{is_destination}
use Rattle.codes.specs.declared.Destination.TheVariants as Dst
use Rattle.device.specs.Lent.{ram_at}

-- "P-select 0 to 3: RAM, bus, M, N"
unfoldable pub operand_of : Registers → ℕ → ℕ → List ℕ → ℕ
operand_of r psel bus ram = slice_index_or (ram_at ram r.dp ∷ bus ∷ m_of r.k r.l ∷ []) psel (n_of r.k r.l)

-- an accumulator with its flags, and a result stored in it
abbrev pub accumulator_a : Registers → Accumulator
accumulator_a r = record { value = r.a; flags = r.flags.a }

abbrev pub accumulator_b : Registers → Accumulator
accumulator_b r = record { value = r.b; flags = r.flags.b }

abbrev pub stored_a : Registers → Accumulator → Registers
stored_a q x = set_a (set_flags_a q x.flags) x.value

abbrev pub stored_b : Registers → Accumulator → Registers
stored_b q x = set_b (set_flags_b q x.flags) x.value

-- ASL "(0 = A)"
abbrev pub chooses_a : OpFields → Bool
chooses_a f = f.asl == 0

-- "If the chosen accumulator is also the destination, the ALU does nothing and all flags stay"
abbrev pub blocked : OpFields → Bool
blocked f = is_destination f.dst (cond (chooses_a f) Dst.A Dst.B)

-- q with the operation's result; everything is read from r
unfoldable pub accumulated : Registers → Registers → OpFields → ℕ → List ℕ → Registers
accumulated r q f bus ram =
    let p = operand_of r f.psel bus ram in
    cond (blocked f) q
    (cond (chooses_a f)
    (stored_a q (operated (operation_of f.alu) (accumulator_a r) p r.flags.b.c))
    (stored_b q (operated (operation_of f.alu) (accumulator_b r) p r.flags.a.c)))
