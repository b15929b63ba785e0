-- What a word does to A, by its fields: 01, "In demand 3 a word adds M to A when ..".
use Rattle.std.specs.Prelude.{Bool, false, not, cond, ◌&&◌, List, [], ◌∷◌, ◌==◌}
use Rattle.alu.specs.Operations.{operation_code}
use Rattle.alu.specs.declared.Operation.TheVariants.{None, Add}
use Rattle.word.specs.Fields.{select}
use Rattle.word.specs.declared.Word.{Word}
use Rattle.word.specs.declared.Word.TheVariants.{Op, Rt, Jp, JpCode, Ldi}
use Rattle.word.specs.declared.OpFields.{OpFields}
use Rattle.stages.specs.Accumulators.{chooses_a}
use Rattle.codes.specs.Codes.{is_destination}
use Rattle.codes.specs.declared.Destination.TheVariants as Dst
use Rattle.accuracy.specs.Exact.{Inputs}
use Rattle.accuracy.specs.Deeds.{Deed, word, event}

-- "a word adds M to A when its operation is ADD, ASL is 0, P-select is M and DST is not A; ADC counts as something else"
abbrev pub op_adds_m : OpFields → Bool
op_adds_m f = f.alu == operation_code Add && chooses_a f && f.psel == select.m && not (is_destination f.dst Dst.A)

abbrev pub adds_m : Word → Bool
adds_m (Op f) = op_adds_m f
adds_m (Rt f) = op_adds_m f
adds_m (Jp f) = false
adds_m (JpCode f) = false
adds_m (Ldi f) = false

-- a word operates on A when its operation is not none and ASL is 0
abbrev pub op_operates_on_a : OpFields → Bool
op_operates_on_a f = not (f.alu == operation_code None) && chooses_a f

abbrev pub operates_on_a : Word → Bool
operates_on_a (Op f) = op_operates_on_a f
operates_on_a (Rt f) = op_operates_on_a f
operates_on_a (Jp f) = false
operates_on_a (JpCode f) = false
operates_on_a (Ldi f) = false

-- a word loads A when DST is A
abbrev pub loads_a : Word → Bool
loads_a (Op f) = is_destination f.dst Dst.A
loads_a (Rt f) = is_destination f.dst Dst.A
loads_a (Jp f) = false
loads_a (JpCode f) = false
loads_a (Ldi f) = is_destination f.dst Dst.A

-- K and L as each adding word finds them
unfoldable pub added : List Deed → List Inputs
added [] = []
added (word w r ∷ ds) = cond (adds_m w) (record { k = r.k; l = r.l } ∷ added ds) (added ds)
added (event kind ∷ ds) = added ds
