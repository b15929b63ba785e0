-- One answer, whole or untouched, nothing left of what was there before. Assumes nothing.
use mathlib.Core.Path.{◌≡◌, refl, sym, ap, ◌∙◌}
use mathlib.Core.Bool.{Bool, true, false, cond}
use mathlib.Core.List.{List, [], ◌∷◌}
use Prim.Native.Nat.{ℕ}
use native.Mathlib.Omega.{arith}
use lib.ListN.{length}
use lib.Dec.{eqb}
use borrow.Author.Tests.{eqb-true, eqb-false}
use Rattle.image.specs.Lines.{lines, onto, joined}
use Rattle.image.specs.IntelHex.{intel_hex}
use Rattle.image.specs.Image.{Walked, walk, Loaded, loaded, at}
use Rattle.image.specs.Replies.{loading_of}
use Rattle.image.specs.Promises.{OneAnswer, OneLoad, Untouched, Replaced, Whole}
use Rattle.image.proofs.Walking.{records}
use Rattle.image.proofs.Loads.{blank, outcome, outcome-is}
use Rattle.image.proofs.Replies.{one-loading}

-- what a call leaves is its number, its line and its image
pub one_answer : OneAnswer
one_answer width size text image x y a b p q =
    let e : loaded x a ≡ loaded y b = p ∙ sym q in
    (ap (λ (l : Loaded). at l.line l.number) e, ap (λ (l : Loaded). l.image) e)

pub one-load : OneLoad
one-load width size text image x y a b p q =
    let same = one_answer width size text image (loading_of x) (loading_of y) a b p q in
    (one-loading x y same.0, same.1)

untouched-if : (width size : ℕ) (image : List ℕ) (w : Walked) (fits good : Bool) → eqb w.number 0 ≡ good
    → ((outcome width size image w fits good).number ≡ 0 → ⊥) → (outcome width size image w fits good).image ≡ image
unfolding outcome
untouched-if width size image w true true e h = absurd (h (eqb-true _ _ e))
untouched-if width size image w true false e h = refl
untouched-if width size image w false good e h = refl

pub untouched : Untouched
untouched width size text image h =
    let w = walk 0 (records text) (blank width size) in
    let is = outcome-is intel_hex width size text image in
    ap (λ (l : Loaded). l.image) is
    ∙ untouched-if width size image w (eqb (length image) size) (eqb w.number 0) refl (λ z. h (ap (λ (l : Loaded). l.number) is ∙ z))

-- a load that is taken does not look at the cells of the image
replaced-if : (width size : ℕ) (image other : List ℕ) (w : Walked) (fits good : Bool) → eqb w.number 0 ≡ good
    → (outcome width size image w fits good).number ≡ 0 → outcome width size other w fits good ≡ outcome width size image w fits good
unfolding outcome
replaced-if width size image other w true true e h = refl
replaced-if width size image other w true false e h = absurd (eqb-false _ _ e h)
replaced-if width size image other w false good e h = absurd (omega arith)

pub replaced : Replaced
replaced width size text image other n h =
    let w = walk 0 (records text) (blank width size) in
    let is = outcome-is intel_hex width size text image in
    outcome-is intel_hex width size text other ∙ ap (λ (k : ℕ). outcome width size other w (eqb k size) (eqb w.number 0)) (sym n)
    ∙ replaced-if width size image other w (eqb (length image) size) (eqb w.number 0) refl (sym (ap (λ (l : Loaded). l.number) is) ∙ h)
    ∙ sym is

joined-onto : (c : ℕ) (ls : List (List ℕ)) → joined (onto c ls) ≡ c ∷ joined ls
unfolding joined
joined-onto c [] = refl
joined-onto c (l ∷ ls) = refl

whole-if : (c : ℕ) (text : List ℕ) (b : Bool) → joined (lines text) ≡ text → joined (cond b ((c ∷ []) ∷ lines text) (onto c (lines text))) ≡ c ∷ text
unfolding joined
whole-if c text true e = ap {B = List ℕ} (λ t. c ∷ t) e
whole-if c text false e = joined-onto c (lines text) ∙ ap {B = List ℕ} (λ t. c ∷ t) e

pub whole : Whole
unfolding lines joined
whole [] = refl
whole (c ∷ text) = whole-if c text (eqb c 10) (whole text)
