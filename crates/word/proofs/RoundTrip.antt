-- Taking a word apart and building it undo each other. A row of either chip's table is a list of widths below the two top bits, and the laws of rows do
-- the rest.
-- Assumes nothing.
use Prim.Native.Nat.{ℕ, zero, suc, ◌+◌, ◌*◌, ◌%◌, ◌^◌, ◌<◌}
use native.Mathlib.Omega.{arith}
use mathlib.Core.Path.{◌≡◌, refl, sym, ap, subst, ◌∙◌}
use mathlib.Core.Bool.{Bool, true, false, cond, and_assoc, and-true, false≢true}
use mathlib.Core.List.{List, [], ◌∷◌}
use mathlib.Core.Logic.{◌⊎◌, inl, inr, ⊎_elim}
use borrow.Author.Tests.{lt-ltb, le-ltb}
use lib.ListN.{get_or}
use Rattle.numbers.proofs.Parts.{total, parts, together, fitting, Row, row_back, row_fits, row_lt, row-again}
use Rattle.device.specs.Device.{chip, word_limit}
use Rattle.numbers.specs.Bits.{bits, at}
use Rattle.word.specs.Fields.{aligned, raised, op_fields, op_holds, op_bits, jp_fields, jp_holds, jp_bits, code_fields, code_holds, code_bits, ldi_fields, ldi_holds, ldi_bits}
use Rattle.word.specs.Word.{jump_of, word_of, taken_apart, word_holds, word_bits, built}
use Rattle.word.specs.declared.OpFields.{OpFields}
use Rattle.word.specs.declared.JpFields.{JpFields}
use Rattle.word.specs.declared.CodeFields.{CodeFields}
use Rattle.word.specs.declared.LdiFields.{LdiFields}
use Rattle.word.specs.RoundTrip.{TakenThenBuilt, BuiltThenTaken, TakenRefused, BuiltRefused}
use Rattle.word.specs.declared.Word.{Word}
use Rattle.word.specs.declared.Word.TheVariants.{Op, Rt, Jp, JpCode, Ldi}
use Rattle.word.proofs.Places.{psel-place, alu-place, asl-place, dpl-place, id-place}

-- ---- the rows of the tables

-- a word's values below the two top bits, where the chip decides a width
module _ (f : OpFields) where
  abbrev op_values : List ℕ
  op_values = f.psel ∷ f.alu ∷ f.asl ∷ f.dpl ∷ f.dphm ∷ f.rpdcr ∷ f.src ∷ f.dst ∷ []

abbrev op_widths : Bool → List ℕ
op_widths large = 2 ∷ 4 ∷ 1 ∷ 2 ∷ cond large 4 3 ∷ 1 ∷ 4 ∷ 4 ∷ []

op-taken : (large : Bool) (w : ℕ) → op_values (op_fields large w) ≡ parts (op_widths large) w
op-taken true w = λ i. psel-place w i ∷ alu-place w i ∷ asl-place w i ∷ dpl-place w i ∷ bits w 12 9 ∷ bits w 8 8 ∷ bits w 7 4 ∷ bits w 3 0 ∷ []
op-taken false w = refl

op-fitted : (large : Bool) (f : OpFields) → fitting (op_widths large) (op_values f) ≡ op_holds large f
op-fitted true f = simp (and_assoc, and-true)
op-fitted false f = simp (and_assoc, and-true)

op-put : (large : Bool) (f : OpFields) → together (op_widths large) (op_values f) ≡ op_bits large f
op-put true f = omega arith
op-put false f = omega arith

op : Bool → Row OpFields
op large =
    record {
      widths = op_widths large;
      values = op_values;
      of_values = λ l. record { psel = get_or l 0 0; alu = get_or l 1 0; asl = get_or l 2 0; dpl = get_or l 3 0; dphm = get_or l 4 0; rpdcr = get_or l 5 0; src = get_or l 6 0; dst = get_or l 7 0 };
      same = λ f. refl;
      fields = op_fields large;
      holds = op_holds large;
      number = op_bits large;
      taken = op-taken large;
      fitted = op-fitted large;
      put = op-put large;
    }

jp : Row JpFields
jp =
    record {
      widths = 3 ∷ 5 ∷ 9 ∷ 4 ∷ [];
      values = λ f. f.brch ∷ f.cnd ∷ f.na ∷ f.spare ∷ [];
      of_values = λ l. record { brch = get_or l 0 0; cnd = get_or l 1 0; na = get_or l 2 0; spare = get_or l 3 0 };
      same = λ f. refl;
      fields = jp_fields;
      holds = jp_holds;
      number = jp_bits;
      taken = λ w. refl;
      fitted = λ f. simp (and_assoc, and-true);
      put = λ f. omega arith;
    }

code : Row CodeFields
code =
    record {
      widths = 9 ∷ 11 ∷ 2 ∷ [];
      values = λ f. f.code ∷ f.na ∷ f.spare ∷ [];
      of_values = λ l. record { code = get_or l 0 0; na = get_or l 1 0; spare = get_or l 2 0 };
      same = λ f. refl;
      fields = code_fields;
      holds = code_holds;
      number = code_bits;
      taken = λ w. refl;
      fitted = λ f. simp (and_assoc, and-true);
      put = λ f. omega arith;
    }

abbrev ldi_widths : Bool → List ℕ
ldi_widths large = 16 ∷ cond large 2 1 ∷ 4 ∷ []

ldi-taken : (large : Bool) (w : ℕ) → (ldi_fields large w).id ∷ (ldi_fields large w).spare ∷ (ldi_fields large w).dst ∷ [] ≡ parts (ldi_widths large) w
ldi-taken true w = λ i. id-place w i ∷ bits w 5 4 ∷ bits w 3 0 ∷ []
ldi-taken false w = refl

ldi-fitted : (large : Bool) (f : LdiFields) → fitting (ldi_widths large) (f.id ∷ f.spare ∷ f.dst ∷ []) ≡ ldi_holds large f
ldi-fitted true f = simp (and_assoc, and-true)
ldi-fitted false f = simp (and_assoc, and-true)

ldi-put : (large : Bool) (f : LdiFields) → together (ldi_widths large) (f.id ∷ f.spare ∷ f.dst ∷ []) ≡ ldi_bits large f
ldi-put true f = omega arith
ldi-put false f = omega arith

ldi : Bool → Row LdiFields
ldi large =
    record {
      widths = ldi_widths large;
      values = λ f. f.id ∷ f.spare ∷ f.dst ∷ [];
      of_values = λ l. record { id = get_or l 0 0; spare = get_or l 1 0; dst = get_or l 2 0 };
      same = λ f. refl;
      fields = ldi_fields large;
      holds = ldi_holds large;
      number = ldi_bits large;
      taken = ldi-taken large;
      fitted = ldi-fitted large;
      put = ldi-put large;
    }

-- ---- the two top bits and what stands below them

-- one more than the largest number below the two top bits
abbrev below : Bool → ℕ
below large = cond large 4194304 2097152

op-below : (large : Bool) → 2 ^ total (op_widths large) ≡ below large
op-below true = refl
op-below false = refl

ldi-below : (large : Bool) → 2 ^ total (ldi_widths large) ≡ below large
ldi-below true = refl
ldi-below false = refl

topped : (large : Bool) (w k b : ℕ) → w < word_limit (chip large) → bits (aligned large w) 22 21 ≡ k → b ≡ w % below large → raised large (at 21 k) + b ≡ w
topped true w k b h e l = omega arith
topped false w k b h e l = omega arith

top_of : (large : Bool) (k b : ℕ) → k < 4 → b < below large
    → (bits (aligned large (raised large (at 21 k) + b)) 22 21 ≡ k) × (raised large (at 21 k) + b < word_limit (chip large)) × (raised large (at 21 k) + b ≡ k * below large + b)
top_of true k b h l = (omega arith, omega arith, omega arith)
top_of false k b h l = (omega arith, omega arith, omega arith)

-- a number below 4 is one of four
four : (n : ℕ) → n < 4 → (n ≡ 0) ⊎ ((n ≡ 1) ⊎ ((n ≡ 2) ⊎ (n ≡ 3)))
four zero h = inl refl
four (suc zero) h = inr (inl refl)
four (suc (suc zero)) h = inr (inr (inl refl))
four (suc (suc (suc zero))) h = inr (inr (inr refl))
four (suc (suc (suc (suc n)))) h = absurd (omega arith)

top_lt : (large : Bool) (w : ℕ) → bits (aligned large w) 22 21 < 4
top_lt true w = omega arith
top_lt false w = omega arith

module _ (large : Bool) {F : Type 0} (row : Row F) (e : 2 ^ total row.widths ≡ below large) where
  -- fields taken from a word, built below its two top bits, are the word
  row-topped : (w k : ℕ) → w < word_limit (chip large) → bits (aligned large w) 22 21 ≡ k → raised large (at 21 k) + row.number (row.fields w) ≡ w
  row-topped w k h t = topped large w k (row.number (row.fields w)) h t (row_back row w ∙ ap (λ n. w % n) e)

  -- fields that fit, built below two top bits, are taken again
  row-found : (f : F) (k : ℕ) → k < 4 → row.holds f ≡ true
      → (bits (aligned large (raised large (at 21 k) + row.number f)) 22 21 ≡ k) × (raised large (at 21 k) + row.number f < word_limit (chip large))
      × (row.fields (raised large (at 21 k) + row.number f) ≡ f)
  row-found f k l h =
      let t = top_of large k (row.number f) l (subst (λ n. row.number f < n) e (row_lt row f h)) in
      (t.0, t.1, ap row.fields (t.2 ∙ ap (λ n. k * n + row.number f) (sym e)) ∙ row-again row f h k)

-- ---- taken apart, then built

abbrev Back : Bool → ℕ → Word → Type 0
Back large w word = (word_holds large word ≡ true) × (word_bits large word ≡ w)

jump_back : (large : Bool) (w : ℕ) → w < word_limit (chip large) → bits (aligned large w) 22 21 ≡ 2 → Back large w (jump_of large w)
unfolding word_holds word_bits code jp
jump_back true w h e = (row_fits code w, row-topped true code refl w 2 h e)
jump_back false w h e = (row_fits jp w, row-topped false jp refl w 2 h e)

module _ (large : Bool) (w : ℕ) (h : w < word_limit (chip large)) where
  word_back : Back large w (word_of large w)
  unfolding word_of word_holds word_bits op ldi
  word_back =
      ⊎_elim (λ e. rw e (row_fits (op large) w, row-topped large (op large) (op-below large) w 0 h e))
      (⊎_elim (λ e. rw e (row_fits (op large) w, row-topped large (op large) (op-below large) w 1 h e))
      (⊎_elim (λ e. rw e (jump_back large w h e))
      (λ e. rw e (row_fits (ldi large) w, row-topped large (ldi large) (ldi-below large) w 3 h e))))
      (four (bits (aligned large w) 22 21) (top_lt large w))

-- what was taken apart fits
pub taken-holds : (large : Bool) (w : ℕ) → w < word_limit (chip large) → word_holds large (taken_apart large w).word ≡ true
unfolding taken_apart
taken-holds large w h = rw (lt-ltb w (word_limit (chip large)) h) (word_back large w h).0

-- building what was taken apart gives the word
pub taken-then-built : TakenThenBuilt
unfolding taken_apart built
taken-then-built large w h = rw (lt-ltb w (word_limit (chip large)) h, (word_back large w h).0, (word_back large w h).1)

-- ---- built, then taken apart

word-again : (large : Bool) (word : Word) → word_holds large word ≡ true → (word_of large (word_bits large word) ≡ word) × (word_bits large word < word_limit (chip large))
unfolding word_of word_holds word_bits op jp code ldi
word-again large (Op f) h = let t = row-found large (op large) (op-below large) f 0 (omega arith) h in (rw t.0 (ap Op t.2), t.1)
word-again large (Rt f) h = let t = row-found large (op large) (op-below large) f 1 (omega arith) h in (rw t.0 (ap Rt t.2), t.1)
word-again true (Jp f) h = absurd (false≢true h)
word-again false (Jp f) h = let t = row-found false jp refl f 2 (omega arith) h in (rw t.0 (ap Jp t.2), t.1)
word-again true (JpCode f) h = let t = row-found true code refl f 2 (omega arith) h in (rw t.0 (ap JpCode t.2), t.1)
word-again false (JpCode f) h = absurd (false≢true h)
word-again large (Ldi f) h = let t = row-found large (ldi large) (ldi-below large) f 3 (omega arith) h in (rw t.0 (ap Ldi t.2), t.1)

-- taking apart what was built from fields that fit gives the fields
pub built-then-taken : BuiltThenTaken
unfolding taken_apart built
built-then-taken large word h = let a = word-again large word h in rw (h, lt-ltb (word_bits large word) (word_limit (chip large)) a.1, a.0)

-- ---- the answers to all other inputs

pub taken_refused : TakenRefused
unfolding taken_apart
taken_refused large w h = rw (le-ltb w (word_limit (chip large)) h)

pub built-refused : BuiltRefused
unfolding built
built-refused large word h = rw h
