-- The number with which a word is answered is the first in the order that applies: a row's chain is the list without the tests of the other rows, which
-- do not apply to it.
-- Assumes nothing.
use Prim.Native.Nat.{ℕ}
use mathlib.Core.Path.{◌≡◌, refl, sym, ap, ◌∙◌}
use mathlib.Core.Bool.{Bool, true, false, cond, not, ◌&&◌, ◌||◌, and-false, false≢true}
use mathlib.Core.List.{List, [], ◌∷◌}
use borrow.Author.Tests.{eqb-true, ltb-true, ltb-false, lt-leb, le-leb}
use lib.Dec.{eqb, ltb, leb}
use Rattle.device.specs.Device.{chip, upd77c25, word_limit}
use Rattle.device.specs.Lent.{word_at}
use Rattle.device.specs.declared.registers.Registers.{Registers}
use Rattle.word.specs.JumpCodes.{branch_of}
use Rattle.word.specs.Word.{taken_apart, word_of}
use Rattle.word.specs.declared.Word.{Word}
use Rattle.word.specs.declared.Word.TheVariants.{Op, Rt, Jp, JpCode, Ldi}
use Rattle.words.specs.Outcomes.{finished_word, refused_word, decided}
use Rattle.words.specs.Refusals.{unused_bits, cell_too_wide, nothing_to_pop, stack_full, op_refusal, jp_refusal, ldi_refusal}
use Rattle.words.specs.Operation.{op_word}
use Rattle.words.specs.Jump.{jp_word}
use Rattle.words.specs.Load.{ldi_word}
use Rattle.words.specs.Word.{row_done, fetched_done, word_done}
use Rattle.words.specs.Order.{lowest, has_unknown_branch, lacks_source, reads_cell, is_return, is_call, refusals_of, refusals, LowestGiven, FirstOfTwo, FirstOfTwoLarge, NeverBoth, NeverSixOrSeven}

-- a row's answer has the row's number
decided-number : (n : ℕ) (r q : Registers) (trb after : ℕ) (ram left : List ℕ) → (decided n r trb ram (finished_word q after left)).number ≡ n
decided-number n r q trb after ram left = go (eqb n 0) refl
  where
    go : (t : Bool) → eqb n 0 ≡ t → (cond t (finished_word q after left) (refused_word n r trb ram)).number ≡ n
    go true e = sym (eqb-true n 0 e)
    go false e = refl

row-lowest : (large : Bool) (r : Registers) (trb : ℕ) (word : Word) (ram rom : List ℕ) → (row_done large r trb word ram rom).number ≡ lowest (refusals_of large false r word rom)
unfolding op_word op_refusal jp_word jp_refusal ldi_word ldi_refusal
row-lowest large r trb (Op f) ram rom = decided-number (op_refusal large false r f rom) r _ trb _ ram _
row-lowest large r trb (Rt f) ram rom = decided-number (op_refusal large true r f rom) r _ trb _ ram _
row-lowest large r trb (Jp f) ram rom = decided-number (jp_refusal large r (Jp f)) r _ trb _ ram _
row-lowest large r trb (JpCode f) ram rom = decided-number (jp_refusal large r (JpCode f)) r _ trb _ ram _
row-lowest large r trb (Ldi f) ram rom = decided-number (ldi_refusal large r f rom) r _ trb _ ram _

pub lowest-given : LowestGiven
unfolding word_done fetched_done taken_apart
lowest-given large r trb program rom ram = go (ltb w (word_limit (chip large))) refl
  where
    w : ℕ
    w = word_at program r.pc

    go : (t : Bool) → ltb w (word_limit (chip large)) ≡ t → (fetched_done large r trb w ram rom).number ≡ lowest (refusals large r w rom)
    go true e = rw (e, lt-leb (word_limit (chip large)) w (ltb-true w (word_limit (chip large)) e)) (row-lowest large r trb (word_of large w) ram rom)
    go false e = rw (e, le-leb (word_limit (chip large)) w (ltb-false w (word_limit (chip large)) e))

pub first-of-two : FirstOfTwo
unfolding taken_apart word_of branch_of
first-of-two r trb program rom ram =
    let given = lowest-given false r trb program rom ram in
    (λ e. given ∙ rw e refl, λ e. given ∙ rw e refl, λ e. given ∙ rw e refl, λ e. given ∙ rw e refl, λ e. given ∙ rw e refl, λ e. given ∙ rw e refl, λ e wide. given ∙ rw (e, wide) refl)

pub first-of-two-large : FirstOfTwoLarge
unfolding taken_apart word_of branch_of
first-of-two-large r trb program rom ram =
    let given = lowest-given true r trb program rom ram in
    (λ e. given ∙ rw e refl, λ e. given ∙ rw e refl, λ e. given ∙ rw e refl)

-- OP and RT have no unused bits, JP and LDI no source
pub never_both : NeverBoth
never_both large (Op f) = refl
never_both large (Rt f) = refl
never_both large (Jp f) = and-false (unused_bits (Jp f))
never_both large (JpCode f) = and-false (unused_bits (JpCode f))
never_both large (Ldi f) = and-false (unused_bits (Ldi f))

-- of a list in which neither 6 nor 7 applies the first that applies is neither
abbrev pub clear : ℕ → Bool
clear n = not (eqb n 6 || eqb n 7)

first-of-others : (a b c d e : Bool) → clear (lowest ((4, a) ∷ (5, b) ∷ (18, c) ∷ (6, false) ∷ (7, false) ∷ (8, d) ∷ (9, e) ∷ [])) ≡ true
first-of-others true b c d e = refl
first-of-others false true c d e = refl
first-of-others false false true d e = refl
first-of-others false false false true e = refl
first-of-others false false false false true = refl
first-of-others false false false false false = refl

neither : (a b c d e : Bool) {six seven : Bool} → six ≡ false → seven ≡ false → clear (lowest ((4, a) ∷ (5, b) ∷ (18, c) ∷ (6, six) ∷ (7, seven) ∷ (8, d) ∷ (9, e) ∷ [])) ≡ true
neither a b c d e s t = rw (s, t) (first-of-others a b c d e)

-- the larger chip has a source 0, and no cell is too wide for it
has-source : (word : Word) → lacks_source true word ≡ false
has-source (Op f) = refl
has-source (Rt f) = refl
has-source (Jp f) = refl
has-source (JpCode f) = refl
has-source (Ldi f) = refl

no_cell : (r : Registers) (rom : List ℕ) (word : Word) → (reads_cell word && cell_too_wide true r rom) ≡ false
no_cell r rom word = and-false (reads_cell word)

pub word-clear : (r : Registers) (trb : ℕ) (program rom ram : List ℕ) → clear (word_done true r trb program rom ram).number ≡ true
word-clear r trb program rom ram =
    let w = word_at program r.pc in
    let word = (taken_apart true w).word in
    rw (lowest-given true r trb program rom ram)
    (neither (leb (word_limit upd77c25) w) (has_unknown_branch word) (unused_bits word) (nothing_to_pop (is_return word) r) (is_call word && stack_full true r) (has-source word) (no_cell r rom word))

pub never-six-or-seven : NeverSixOrSeven
never-six-or-seven r trb program rom ram =
    let c = word-clear r trb program rom ram in
    ((λ e. false≢true (ap clear (sym e) ∙ c)), (λ e. false≢true (ap clear (sym e) ∙ c)))
