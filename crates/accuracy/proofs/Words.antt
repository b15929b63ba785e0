-- What a finished word does to A and its flags: one that adds M is a sum of the ALU's, and one that neither operates on A nor loads it
-- leaves both as they were.
-- Assumes nothing.
use Prim.Native.Nat.{ℕ}
use native.Mathlib.Omega.{arith}
use mathlib.Core.Path.{◌≡◌, refl, ◌∙◌}
use mathlib.Core.Bool.{Bool, true, false, not, cond, and-eq-true_iff, false≢true}
use mathlib.Core.List.{List}
use borrow.Author.Tests.{eqb-true, eqb-false}
use lib.Dec.{eqb}
use Rattle.numbers.proofs.Choices.{of-cond}
use Rattle.device.specs.Device.{chip}
use Rattle.device.specs.Lent.{word_at}
use Rattle.device.specs.Pointers.{next_address}
use Rattle.device.specs.declared.registers.Registers.{Registers}
use Rattle.word.specs.Fields.{branch}
use Rattle.word.specs.JumpCodes.{branch_of}
use Rattle.word.specs.Word.{taken_apart}
use Rattle.word.specs.declared.OpFields.{OpFields}
use Rattle.word.specs.declared.Word.{Word}
use Rattle.word.specs.declared.Word.TheVariants.{Op, Rt, Jp, JpCode, Ldi}
use Rattle.codes.specs.Codes.{source_of, destination_code, is_destination}
use Rattle.stages.specs.Pointing.{pointed}
use Rattle.codes.specs.declared.Destination.TheVariants as Dst
use Rattle.words.specs.Outcomes.{Outcome, refused_word, finished_word, decided}
use Rattle.words.specs.Refusals.{op_refusal, jp_refusal, ldi_refusal}
use Rattle.words.specs.Operation.{op_bus, op_registers, op_word}
use Rattle.words.proofs.Between.{op_read, op_operated, op_pointed}
use Rattle.words.specs.Jump.{jump_holds, jp_registers, jp_word}
use Rattle.words.specs.Load.{ldi_word}
use Rattle.words.specs.Word.{row_done, fetched_done, word_done}
use Rattle.accuracy.specs.Deeds.{fetched}
use Rattle.accuracy.specs.Adding.{op_adds_m, adds_m, op_operates_on_a, operates_on_a, loads_a}
use Rattle.accuracy.proofs.Stages.{SameA, AddedM, read_a, loaded-a, pc-moved-a, pushed-a, added-a, idle-a}

-- ---- an OP or RT word that finishes

negated : (t : Bool) → not t ≡ true → t ≡ false
negated true e = absurd (false≢true e)
negated false e = refl

module _ (large rt : Bool) (r : Registers) (trb : ℕ) (f : OpFields) (ram rom : List ℕ) where
  abbrev op : Registers
  op = op_registers large rt r trb f ram rom

  -- after the ALU, a word that does not load A leaves it
  settled : (f.dst ≡ destination_code Dst.A → ⊥) → SameA (op_operated large r trb f ram rom) op
  unfolding pointed
  settled h = pc-moved-a large rt (op_pointed large r trb f ram rom) ∙ loaded-a large r.dp r.rp (op_operated large r trb f ram rom) f.dst (op_bus large r trb f ram rom) ram rom h

  op-adds : op_adds_m f ≡ true → AddedM r op
  op-adds e =
      let h = simp and-eq-true_iff at e in
      let n = eqb-false f.dst (destination_code Dst.A) (negated (is_destination f.dst Dst.A) h.1) in
      settled n ∙ added-a r (op_read large r trb f) f (op_bus large r trb f ram rom) ram (omega (arith, eqb-true)) (omega (arith, eqb-true)) (omega (arith, eqb-true)) n

  op-leaves : op_operates_on_a f ≡ false → is_destination f.dst Dst.A ≡ false → SameA r op
  op-leaves i n = settled (eqb-false f.dst (destination_code Dst.A) n) ∙ idle-a r (op_read large r trb f) f (op_bus large r trb f ram rom) ram i (read_a r (source_of f.src))

-- ---- any word

-- P holds of the registers that a word leaves if it finishes
abbrev pub Ends : (Registers → Type 0) → Outcome → Type 0
Ends P o = o.number ≡ 0 → P o.registers

-- a word is refused exactly where its number is not 0
checked : (P : Registers → Type 0) (n : ℕ) (r q : Registers) (trb after-trb : ℕ) (ram after : List ℕ) → P q → Ends P (decided n r trb ram (finished_word q after-trb after))
checked P n r q trb after-trb ram after h = go (eqb n 0) refl
  where
    go : (t : Bool) → eqb n 0 ≡ t → Ends P (cond t (finished_word q after-trb after) (refused_word n r trb ram))
    go true e z = h
    go false e z = absurd (eqb-false n 0 e z)

module _ (large : Bool) (r : Registers) (trb : ℕ) (ram rom : List ℕ) where
  row-adds : (w : Word) → adds_m w ≡ true → Ends (AddedM r) (row_done large r trb w ram rom)
  unfolding op_word
  row-adds (Op f) e = checked (AddedM r) (op_refusal large false r f rom) r _ trb _ ram _ (op-adds large false r trb f ram rom e)
  row-adds (Rt f) e = checked (AddedM r) (op_refusal large true r f rom) r _ trb _ ram _ (op-adds large true r trb f ram rom e)
  row-adds (Jp f) e = absurd (false≢true e)
  row-adds (JpCode f) e = absurd (false≢true e)
  row-adds (Ldi f) e = absurd (false≢true e)

  jump-leaves : (w : Word) → Ends (SameA r) (jp_word large r trb w ram)
  unfolding jp_word jp_registers
  jump-leaves w =
      checked (SameA r) (jp_refusal large r w) r _ trb _ ram _
      (of-cond (SameA r) (eqb (branch_of w) branch.jump) refl
      (of-cond (SameA r) (eqb (branch_of w) branch.call) (pushed-a r (next_address (chip large) r.pc))
      (of-cond (SameA r) (jump_holds r w) refl refl)))

  row-leaves : (w : Word) → operates_on_a w ≡ false → loads_a w ≡ false → Ends (SameA r) (row_done large r trb w ram rom)
  unfolding op_word ldi_word
  row-leaves (Op f) i n = checked (SameA r) (op_refusal large false r f rom) r _ trb _ ram _ (op-leaves large false r trb f ram rom i n)
  row-leaves (Rt f) i n = checked (SameA r) (op_refusal large true r f rom) r _ trb _ ram _ (op-leaves large true r trb f ram rom i n)
  row-leaves (Jp f) i n = jump-leaves (Jp f)
  row-leaves (JpCode f) i n = jump-leaves (JpCode f)
  row-leaves (Ldi f) i n = checked (SameA r) (ldi_refusal large r f rom) r _ trb _ ram _ (loaded-a large r.dp r.rp r f.dst f.id ram rom (λ z. absurd (omega (arith, eqb-false))))

  -- a word too wide is refused with refusal 4, and has no row
  of-fetched : (P : Registers → Type 0) (w : ℕ) → Ends P (row_done large r trb (taken_apart large w).word ram rom) → Ends P (fetched_done large r trb w ram rom)
  unfolding fetched_done
  of-fetched P w h = go (eqb (taken_apart large w).refusal 0) refl
    where
      go : (t : Bool) → eqb (taken_apart large w).refusal 0 ≡ t → Ends P (cond t (row_done large r trb (taken_apart large w).word ram rom) (refused_word (taken_apart large w).refusal r trb ram))
      go true e z = h z
      go false e z = absurd (eqb-false (taken_apart large w).refusal 0 e z)

module _ (large : Bool) (r : Registers) (trb : ℕ) (program rom ram : List ℕ) (done : (word_done large r trb program rom ram).number ≡ 0) where
  pub word-adds : adds_m (fetched large r program) ≡ true → AddedM r (word_done large r trb program rom ram).registers
  unfolding word_done
  word-adds e = of-fetched large r trb ram rom (AddedM r) (word_at program r.pc) (row-adds large r trb ram rom (fetched large r program) e) done

  pub word-leaves : operates_on_a (fetched large r program) ≡ false → loads_a (fetched large r program) ≡ false → SameA r (word_done large r trb program rom ram).registers
  unfolding word_done
  word-leaves i n = of-fetched large r trb ram rom (SameA r) (word_at program r.pc) (row-leaves large r trb ram rom (fetched large r program) i n) done
