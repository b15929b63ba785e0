-- A text that is taken, record by record. Assumes nothing.
use mathlib.Core.Path.{◌≡◌, refl, sym, ap, ◌∙◌}
use mathlib.Core.Bool.{Bool, true, false, cond}
use mathlib.Core.List.{List, [], ◌∷◌}
use Prim.Native.Nat.{ℕ, ◌+◌}
use native.Mathlib.Omega.{arith}
use lib.Dec.{eqb}
use borrow.Author.Tests.{eqb-true, eqb-false}
use Rattle.image.specs.Record.{Record}
use Rattle.image.specs.Image.{given, give, missing, Walked, at, ended, unended, some, walk}
use Rattle.image.proofs.Walking.{walk_refused, walk-last, walk-on, walk-outside}

ended-if : (line : ℕ) (m after : Bool) → (cond m (at line 15) (cond after (at (line + 1) 16) (at line 0))).number ≡ 0 → (m ≡ false) × (after ≡ false)
ended-if line true after h = absurd (omega arith)
ended-if line false true h = absurd (omega arith)
ended-if line false false h = (refl, refl)

-- after the end record of a text that is taken nothing is missing and nothing follows
ended-well : (line : ℕ) (after : Bool) (g : List ℕ) → (ended line after g).number ≡ 0 → (missing g ≡ false) × (after ≡ false)
unfolding ended
ended-well line after g = ended-if line (missing g) after

unended-if : (line : ℕ) (m : Bool) → (cond m (at line 15) (at line 16)).number ≡ 0 → ⊥
unended-if line true h = omega arith
unended-if line false h = omega arith

-- a text without an end record is not taken
pub never : (line : ℕ) (g : List ℕ) → (walk line [] g).number ≡ 0 → ⊥
unfolding walk unended
never line g = unended-if line (missing g)

-- the first record of a walk that is taken ends it, or is put at its addresses
module _ {A : Type 0} (line : ℕ) (r : Record) (rs : List Record) (g : List ℕ) (h : (walk line (r ∷ rs) g).number ≡ 0)
    (ends : r.number ≡ 0 → r.last ≡ true → missing g ≡ false → some rs ≡ false → A)
    (goes : r.number ≡ 0 → r.last ≡ false → (g' : List ℕ) → give r.address r.bytes g ≡ given 0 g' → walk line (r ∷ rs) g ≡ walk (line + 1) rs g' → A) where
  by : {w : Walked} → walk line (r ∷ rs) g ≡ w → w.number ≡ 0
  by e = sym (ap (λ (w : Walked). w.number) e) ∙ h

  first-if : (good last fits : Bool) → eqb r.number 0 ≡ good → r.last ≡ last → eqb (give r.address r.bytes g).number 0 ≡ fits → A
  first-if true true fits b l f =
      let n = eqb-true _ _ b in
      let e = ended-well (line + 1) (some rs) g (by (walk-last line r rs g n l)) in
      ends n l e.0 e.1
  first-if true false true b l f =
      let n = eqb-true _ _ b in
      let p = give r.address r.bytes g in
      let gave : p ≡ given 0 p.bytes = ap (λ (k : ℕ). given k p.bytes) (eqb-true _ _ f) in
      goes n l p.bytes gave (walk-on line r rs g n l p.bytes gave)
  first-if true false false b l f =
      let p = give r.address r.bytes g in
      let z = eqb-false _ _ f in
      absurd (z (by (walk-outside line r rs g (eqb-true _ _ b) l p.number p.bytes refl z)))
  first-if false last fits b l f =
      let z = eqb-false _ _ b in
      absurd (z (by (walk_refused line r rs g z)))

  pub first : A
  first = first-if (eqb r.number 0) r.last (eqb (give r.address r.bytes g).number 0) refl refl refl
