-- A place is free as often as it is still to be given: counted along a walk. Assumes nothing.
use mathlib.Core.Path.{◌≡◌, refl, sym, ap, ◌∙◌}
use mathlib.Core.Bool.{Bool, true, false, cond, ◌||◌}
use mathlib.Core.List.{List, [], ◌∷◌}
use Prim.Native.Nat.{ℕ, zero, suc, ◌+◌, ◌<◌, ◌≤◌}
use native.Mathlib.Omega.{arith}
use lib.ListN.{length, get_or, set, replicate, get_or-replicate, length-replicate, get_or-eq_default}
use lib.Seq.{get_or-set_same, get_or-set_other}
use lib.Dec.{eqb, ltb}
use borrow.Author.Tests.{eq-eqb, ne_eqb, eqb-true, eqb-false, ltb-true, ltb-false}
use Rattle.image.specs.Image.{Given, given, give, missing}
use Rattle.image.proofs.CellBytes.{Bytes}
use Rattle.image.proofs.Giving.{give-free}
use Rattle.image.proofs.Fills.{neither}
use Rattle.image.proofs.Order.{was_free, free-inside}
use Rattle.loads.specs.Given.{from, times}

-- 1 if no byte was given yet for an address of the image
pub free : List ℕ → ℕ → ℕ
free g x = cond (eqb (get_or g x 0) 256) 1 0

pub is_free : (g : List ℕ) (x : ℕ) → get_or g x 0 ≡ 256 → free g x ≡ 1
unfolding free
is_free g x h = rw (eq-eqb _ _ h)

pub not_free : (g : List ℕ) (x : ℕ) → (get_or g x 0 ≡ 256 → ⊥) → free g x ≡ 0
unfolding free
not_free g x h = rw (ne_eqb _ _ h)

free-if : (g : List ℕ) (x : ℕ) (t : Bool) → eqb (get_or g x 0) 256 ≡ t → 1 ≤ free g x → get_or g x 0 ≡ 256
free-if g x true e h = eqb-true _ _ e
free-if g x false e h = absurd (omega (arith, not_free g x (eqb-false _ _ e)))

pub free-place : (g : List ℕ) (x : ℕ) → 1 ≤ free g x → get_or g x 0 ≡ 256
free-place g x = free-if g x (eqb (get_or g x 0) 256) refl

pub same-free : (g g' : List ℕ) (x : ℕ) → get_or g' x 0 ≡ get_or g x 0 → free g' x ≡ free g x
unfolding free
same-free g g' x k = rw k

-- a byte takes its own place and no other
set_if : (g : List ℕ) (a b x : ℕ) (t : Bool) → eqb a x ≡ t → get_or g a 0 ≡ 256 → b < 256 → free g x ≡ cond t 1 0 + free (set g a b) x
set_if g a b x true e f h =
    let s : a ≡ x = eqb-true a x e in
    let k : get_or (set g a b) x 0 ≡ b = ap (λ (i : ℕ). get_or (set g a b) i 0) (sym s) ∙ get_or-set_same g a b 0 (free-inside g a (ltb a (length g)) refl f) in
    omega (arith, is_free g x (ap (λ (i : ℕ). get_or g i 0) (sym s) ∙ f), not_free (set g a b) x (λ z. omega (arith, z, k)))
set_if g a b x false e f h =
    let k : get_or (set g a b) x 0 ≡ get_or g x 0 = get_or-set_other g a x b 0 (λ s. eqb-false a x e (sym s)) in
    omega (arith, same-free g (set g a b) x k)

-- bytes that are given were free, each as often as it is given
pub give-counts : (bs : List ℕ) (a : ℕ) (g g' : List ℕ) → Bytes bs → give a bs g ≡ given 0 g' → (x : ℕ) → free g x ≡ times x (from a bs) + free g' x
unfolding give
give-counts [] a g g' s h x = omega (arith, ap (λ (p : Given). free p.bytes x) h)
give-counts (b ∷ bs) a g g' s h x =
    let f = was_free a b bs g g' h in
    let i = give-counts bs (a + 1) (set g a b) g' s.1 (sym (give-free a b bs g f) ∙ h) x in
    omega (arith, i, set_if g a b x (eqb a x) refl f s.0)

-- and bytes that find their places free are given
pub give-fits : (bs : List ℕ) (a : ℕ) (g : List ℕ) → Bytes bs → ((x : ℕ) → times x (from a bs) ≤ free g x) → (give a bs g).number ≡ 0
unfolding give
give-fits [] a g s h = refl
give-fits (b ∷ bs) a g s h =
    let own : ◌≡◌ {A = ℕ} (cond (eqb a a) 1 0) 1 = ap (λ (t : Bool). cond {A = ℕ} t 1 0) (eq-eqb a a refl) in
    let f = free-place g a (omega (arith, h a, own)) in
    ap (λ (p : Given). p.number) (give-free a b bs g f)
    ∙ give-fits bs (a + 1) (set g a b) s.1 (λ x. omega (arith, h x, set_if g a b x (eqb a x) refl f s.0))

-- nothing is missing where nothing is free
pub none_free : (g : List ℕ) → missing g ≡ false → (x : ℕ) → free g x ≡ 0
unfolding missing free
none_free [] m x = refl
none_free (b ∷ g) m zero = rw (neither (eqb b 256) (missing g) m).0
none_free (b ∷ g) m (suc x) = none_free g (neither (eqb b 256) (missing g) m).1 x

none-if : (b : ℕ) (rest t : Bool) → cond {A = ℕ} t 1 0 ≡ 0 → rest ≡ false → (t || rest) ≡ false
none-if b rest true h e = absurd (omega arith)
none-if b rest false h e = e

pub none-missing : (g : List ℕ) → ((x : ℕ) → free g x ≡ 0) → missing g ≡ false
unfolding missing free
none-missing [] h = refl
none-missing (b ∷ g) h = none-if b (missing g) (eqb b 256) (h 0) (none-missing g (λ x. h (suc x)))

-- before anything is given every place is free, and there is none outside
blank-if : (n x : ℕ) (t : Bool) → ltb x n ≡ t → free (replicate n 256) x ≡ cond t 1 0
blank-if n x true e = is_free _ x (get_or-replicate n x 256 0 (ltb-true x n e))
blank-if n x false e =
    let out : length (replicate {A = ℕ} n 256) ≤ x = omega (arith, ltb-false x n e, length-replicate {A = ℕ} n 256) in
    not_free _ x (λ z. omega (arith, z, get_or-eq_default (replicate {A = ℕ} n 256) 0 out))

pub blank-free : (n x : ℕ) → free (replicate n 256) x ≡ cond (ltb x n) 1 0
blank-free n x = blank-if n x (ltb x n) refl
