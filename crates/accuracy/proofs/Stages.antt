-- What the stages of a word do to A and its flags: the ALU alone operates on A, and DST A alone loads it; every other stage sets other registers.
-- Assumes nothing.
use Prim.Native.Nat.{ℕ}
use mathlib.Core.Path.{◌≡◌, refl}
use mathlib.Core.Bool.{Bool, true, false, not, cond, ◌&&◌, true≢false}
use mathlib.Core.List.{List, [], ◌∷◌}
use borrow.Author.Tests.{eqb-true, ne_eqb}
use lib.Dec.{eqb}
use Rattle.numbers.proofs.Choices.{of-get_or, of-get_or-but}
use Rattle.alu.specs.Operations.{operation_of, operation_code, plus, operated}
use Rattle.alu.specs.declared.Accumulator.{Accumulator}
use Rattle.alu.specs.declared.Operation.TheVariants.{None, Add}
use Rattle.multiplier.specs.Product.{m_of}
use Rattle.device.specs.Set.{set_depth, set_stack0, set_stack1, set_stack2, set_stack3}
use Rattle.device.specs.declared.pointers.InstructionAddress.{InstructionAddress}
use Rattle.device.specs.declared.pointers.RamPointer.{RamPointer}
use Rattle.device.specs.declared.pointers.RomPointer.{RomPointer}
use Rattle.device.specs.declared.registers.Registers.{Registers}
use Rattle.word.specs.Fields.{select}
use Rattle.word.specs.declared.OpFields.{OpFields}
use Rattle.flow.specs.Stack.{pushed, popped}
use Rattle.stages.specs.Accumulators.{operand_of, accumulator_a, stored_a, stored_b, chooses_a, blocked, accumulated}
use Rattle.stages.specs.Bus.{read_from}
use Rattle.codes.specs.Codes.{destinations, destination_of, destination_code}
use Rattle.stages.specs.Destinations.{loaded}
use Rattle.codes.specs.declared.Source.{Source}
use Rattle.codes.specs.declared.Destination.TheVariants as Dst
use Rattle.stages.proofs.Keeping.{of-read}
use Rattle.words.specs.Operation.{pc_moved}
use Rattle.accuracy.specs.Adding.{op_operates_on_a}

-- q has A and its flags as r has them
abbrev pub SameA : Registers → Registers → Type 0
SameA r q = accumulator_a q ≡ accumulator_a r

-- q has M added to A as r has it
abbrev pub AddedM : Registers → Registers → Type 0
AddedM r q = accumulator_a q ≡ plus (accumulator_a r) (m_of r.k r.l) 0

-- ---- the stages

pub read_a : (r : Registers) (s : Source) → SameA r (read_from r s)
read_a r s = of-read r s (SameA r) refl refl refl

-- only DST A loads A
pub loaded-a : (large : Bool) (dp : RamPointer) (rp : RomPointer) (q : Registers) (dst bus : ℕ) (ram rom : List ℕ) → (dst ≡ destination_code Dst.A → ⊥) → SameA q (loaded large dp rp q (destination_of dst) bus ram rom)
unfolding loaded
loaded-a large dp rp q dst bus ram rom =
    of-get_or-but (λ d. SameA q (loaded large dp rp q d bus ram rom)) destinations (destination_code Dst.A) dst
    (refl, (refl, (refl, (refl, (refl, (refl, (refl, (refl, (refl, (refl, (refl, (refl, (refl, (refl, (refl, tt))))))))))))))) refl

pub pc-moved-a : (large rt : Bool) (q : Registers) → SameA q (pc_moved large rt q)
unfolding popped
pc-moved-a large true q = refl
pc-moved-a large false q = refl

pub pushed-a : (r : Registers) (x : InstructionAddress) → SameA r (pushed r x)
unfolding pushed
pushed-a r x =
    of-get_or (SameA r) (set_depth (set_stack0 r x) 1 ∷ set_depth (set_stack1 r x) 2 ∷ set_depth (set_stack2 r x) 3 ∷ set_depth (set_stack3 r x) 4 ∷ []) r.depth
    (refl, (refl, (refl, (refl, tt)))) refl

-- ---- the ALU

module _ (r q : Registers) (f : OpFields) (bus : ℕ) (ram : List ℕ) where
  pub added-a : f.alu ≡ operation_code Add → f.asl ≡ 0 → f.psel ≡ select.m → (f.dst ≡ destination_code Dst.A → ⊥) → AddedM r (accumulated r q f bus ram)
  unfolding accumulated operand_of operated
  added-a alu asl psel dst = rw (alu, asl, psel, ne_eqb f.dst (destination_code Dst.A) dst)

  pub idle-a : op_operates_on_a f ≡ false → SameA r q → SameA r (accumulated r q f bus ram)
  unfolding accumulated operated
  idle-a idle same = go (blocked f) (chooses_a f) (eqb f.alu (operation_code None)) _ refl idle
    where
      p : ℕ
      p = operand_of r f.psel bus ram

      on_a : Accumulator
      on_a = operated (operation_of f.alu) (accumulator_a r) p r.flags.b.c

      go : (s t u : Bool) (on_b : Accumulator) → eqb f.alu (operation_code None) ≡ u → (not u && t) ≡ false → SameA r (cond s q (cond t (stored_a q on_a) (stored_b q on_b)))
      go true t u on_b e h = same
      go false false u on_b e h = same
      go false true true on_b e h = rw (eqb-true f.alu (operation_code None) e)
      go false true false on_b e h = absurd (true≢false h)
