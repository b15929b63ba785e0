-- Bytes given at their addresses, and addresses looked through. Assumes nothing.
use mathlib.Core.Path.{◌≡◌, refl, sym, ap, ◌∙◌}
use mathlib.Core.Bool.{Bool, false, cond}
use mathlib.Core.List.{List, [], ◌∷◌}
use Prim.Native.Nat.{ℕ, zero, suc, ◌+◌, ◌%◌, ◌<◌, ◌≤◌}
use native.Mathlib.Omega.{arith}
use lib.ListN.{length, get_or, set, length-map, get_or-eq_default}
use lib.Dec.{eqb}
use borrow.Author.Tests.{eq-eqb, ne_eqb}
use Rattle.std.proofs.lemmas.List.{map-set}
use Rattle.std.specs.Prelude.{Option, Some, None, is_none}
use Rattle.std.specs.List.{list_any}
use Rattle.image.specs.Hexadecimal.{bytes_of}
use Rattle.image.specs.Image.{Given, given, give, missing}
use Rattle.image.specs.Replies.{mark, marks}
use Rattle.image.proofs.CellBytes.{Bytes, bytes_below}

give-if : ℕ → ℕ → List ℕ → List ℕ → Bool → Given
give-if a b bs g free = cond free (give (a + 1) bs (set g a b)) (given 15 g)

give-cons : (a b : ℕ) (bs g : List ℕ) → give a (b ∷ bs) g ≡ give-if a b bs g (eqb (get_or g a 0) 256)
unfolding give give-if
give-cons a b bs g = refl

-- one more byte
pub give-free : (a b : ℕ) (bs g : List ℕ) → get_or g a 0 ≡ 256 → give a (b ∷ bs) g ≡ give (a + 1) bs (set g a b)
unfolding give-if
give-free a b bs g e = give-cons a b bs g ∙ ap (give-if a b bs g) (eq-eqb _ _ e)

pub give-taken : (a b : ℕ) (bs g : List ℕ) → (get_or g a 0 ≡ 256 → ⊥) → give a (b ∷ bs) g ≡ given 15 g
unfolding give-if
give-taken a b bs g e = give-cons a b bs g ∙ ap (give-if a b bs g) (ne_eqb _ _ e)

pub give-nothing : (a : ℕ) (g : List ℕ) → give a [] g ≡ given 0 g
unfolding give
give-nothing a g = refl

-- an address without a byte, by the code's marks
marked-if : (b : ℕ) → eqb (b % 256) 256 ≡ false
marked-if b = ne_eqb (b % 256) 256 (λ z. omega arith)

pub missing-any : (g : List (Option ℕ)) → missing (marks g) ≡ list_any (λ b. is_none b) g
unfolding missing
missing-any [] = refl
missing-any (None ∷ g) = refl
missing-any (Some b ∷ g) = rw (marked-if b) (missing-any g)

-- what stands at an address of the image
pub mark_at : (g : List (Option ℕ)) (a : ℕ) → a < length g → get_or (marks g) a 0 ≡ mark (get_or g a None)
mark_at [] a h = absurd (omega arith)
mark_at (x ∷ g) zero h = refl
mark_at (x ∷ g) (suc a) h = mark_at g a (omega arith)

-- outside of it there is no free address
pub mark-outside : (g : List (Option ℕ)) (a : ℕ) → length g ≤ a → get_or (marks g) a 0 ≡ 0
mark-outside g a h = get_or-eq_default (marks g) 0 (omega (arith, length-map g mark))

-- a byte given
pub marks-set : (g : List (Option ℕ)) (a b : ℕ) → b < 256 → marks (set g a (Some b)) ≡ set (marks g) a b
marks-set g a b h =
    let m : mark (Some b) ≡ b = omega arith in
    map-set mark g a (Some b) ∙ ap (set (marks g) a) m

head-below : (b : ℕ) (bs all : List ℕ) → all ≡ b ∷ bs → Bytes all → b < 256
head-below b bs [] e h = cc
head-below b bs (x ∷ all) e h = let s : x ≡ b = cc in omega (arith, h.0)

-- the next of the bytes that characters spell
module _ (cs rest : List ℕ) (b a : ℕ) (g : List (Option ℕ)) (cut : bytes_of cs ≡ b ∷ bytes_of rest) where
  pub give-go : get_or (marks g) a 0 ≡ 256 → give a (bytes_of cs) (marks g) ≡ give (a + 1) (bytes_of rest) (marks (set g a (Some b)))
  give-go e =
      ap (λ (bs : List ℕ). give a bs (marks g)) cut ∙ give-free a b (bytes_of rest) (marks g) e
      ∙ ap (give (a + 1) (bytes_of rest)) (sym (marks-set g a b (head-below b (bytes_of rest) (bytes_of cs) cut (bytes_below cs))))

  pub give-stop : (get_or (marks g) a 0 ≡ 256 → ⊥) → give a (bytes_of cs) (marks g) ≡ given 15 (marks g)
  give-stop e = ap (λ (bs : List ℕ). give a bs (marks g)) cut ∙ give-taken a b (bytes_of rest) (marks g) e

-- what `is_free` uses
pub ruleset places = (mark_at, mark-outside)

-- what `ended` and `unended` use
pub ruleset missings = (missing-any)
