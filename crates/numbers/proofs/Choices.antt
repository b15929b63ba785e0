-- What holds of all that may be chosen holds of the choice.
-- Assumes nothing.
use Rattle.std.proofs.Common.{◌≡◌, ℕ, zero, suc, Bool, true, false, cond, List, [], ◌∷◌, get_or, refl, ap}
use Rattle.numbers.specs.Every.{Every}

module _ {A : Type 0} (P : A → Type 0) where
  pub of-cond : (t : Bool) {x y : A} → P x → P y → P (cond t x y)
  of-cond true h k = h
  of-cond false h k = k

  -- each of the two by what the test said
  pub by_cond : (t : Bool) {x y : A} → (t ≡ true → P x) → (t ≡ false → P y) → P (cond t x y)
  by_cond true h k = h refl
  by_cond false h k = k refl

  pub of-get_or : (l : List A) (n : ℕ) {d : A} → Every P l → P d → P (get_or l n d)
  of-get_or [] n h k = k
  of-get_or (x ∷ l) zero h k = h.0
  of-get_or (x ∷ l) (suc n) h k = of-get_or l n h.1 k

  -- all but the one at a place
  abbrev pub EveryBut : ℕ → List A → Type 0
  EveryBut place [] = Unit
  EveryBut zero (x ∷ l) = Every P l
  EveryBut (suc place) (x ∷ l) = P x × EveryBut place l

  pub of-get_or-but : (l : List A) (place n : ℕ) {d : A} → EveryBut place l → P d → (n ≡ place → ⊥) → P (get_or l n d)
  of-get_or-but [] place n h k other = k
  of-get_or-but (x ∷ l) zero zero h k other = absurd (other refl)
  of-get_or-but (x ∷ l) zero (suc n) h k other = of-get_or l n h k
  of-get_or-but (x ∷ l) (suc place) zero h k other = h.0
  of-get_or-but (x ∷ l) (suc place) (suc n) h k other = of-get_or-but l place n h.1 k (λ e. other (ap suc e))
