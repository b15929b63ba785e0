-- The three ways in which a load ends. Assumes nothing.
use mathlib.Core.Path.{◌≡◌, refl, sym, ap, ◌∙◌}
use mathlib.Core.Bool.{Bool, true, false, cond}
use mathlib.Core.List.{List, ◌∷◌, map}
use Prim.Native.Nat.{ℕ, zero, suc, ◌*◌}
use native.Mathlib.Omega.{arith}
use lib.ListN.{length, replicate}
use mathlib.Core.List.{map-id}
use Rattle.std.specs.Prelude.{Option, None}
use lib.Dec.{eqb}
use borrow.Author.Tests.{eq-eqb, ne_eqb}
use Rattle.image.specs.Lines.{lines}
use Rattle.image.specs.Record.{Record}
use Rattle.image.specs.IntelHex.{intel_hex}
use Rattle.image.specs.Image.{Loading, Walked, walked, at, walk, cells, Loaded, loaded, load}
use Rattle.image.specs.Replies.{marks}

-- what an image holds of a text before anything is given
abbrev pub blank : ℕ → ℕ → List ℕ
blank width size = replicate {A = ℕ} (width * size) 256

module _ (form : List ℕ → Record) (width size : ℕ) (text image : List ℕ) where
  pub load-short : (length image ≡ size → ⊥) → load form width size text image ≡ loaded (at 0 1) image
  unfolding load
  load-short s = rw (ne_eqb _ _ s)

  module _ (s : length image ≡ size) (end : Loading) (g : List ℕ) (p : walked end g ≡ walk 0 (map form (lines text)) (blank width size)) where
    pub load-refused : (end.number ≡ 0 → ⊥) → load form width size text image ≡ loaded end image
    unfolding load
    load-refused z = rw (← p, eq-eqb _ _ s, ne_eqb end.number 0 z)

    pub load-taken : end.number ≡ 0 → load form width size text image ≡ loaded end (cells width size g)
    unfolding load
    load-taken z = rw (← p, eq-eqb _ _ s, eq-eqb end.number 0 z)

-- room in which nothing was given yet
pub marks-blank : (n : ℕ) → marks (replicate n None) ≡ replicate n 256
marks-blank zero = refl
marks-blank (suc n) = ap (λ (l : List ℕ). 256 ∷ l) (marks-blank n)

-- a walk over room in which nothing was given yet
pub walk-blank : (width size : ℕ) (text : List ℕ) (g : List (Option ℕ)) {w : Walked} → g ≡ replicate (width * size) None → w ≡ walk 0 (map intel_hex (lines text)) (marks g)
    → w ≡ walk 0 (map intel_hex (lines text)) (blank width size)
walk-blank width size text g e p = p ∙ ap (walk 0 (map intel_hex (lines text))) (ap marks e ∙ marks-blank (width * size))

-- the same by the tests
unfoldable pub outcome : ℕ → ℕ → List ℕ → Walked → Bool → Bool → Loaded
outcome width size image w fits good =
    let end = at w.line w.number in
    cond fits (cond good (loaded end (cells width size w.bytes)) (loaded end image)) (loaded (at 0 1) image)

pub outcome-is : (form : List ℕ → Record) (width size : ℕ) (text image : List ℕ) → let w = walk 0 (map form (lines text)) (blank width size) in
    load form width size text image ≡ outcome width size image w (eqb (length image) size) (eqb w.number 0)
unfolding load outcome
outcome-is form width size text image = refl

number-if : (width size : ℕ) (image : List ℕ) (w : Walked) (fits good : Bool) → (outcome width size image w fits good).number ≡ 0 → w.number ≡ 0
unfolding outcome
number-if width size image w true true h = h
number-if width size image w true false h = h
number-if width size image w false good h = absurd (omega arith)

-- a load that is taken has the number of its walk
pub walk-taken : (form : List ℕ → Record) (width size : ℕ) (text image : List ℕ) → (load form width size text image).number ≡ 0 → (walk 0 (map form (lines text)) (blank width size)).number ≡ 0
walk-taken form width size text image h =
    let w = walk 0 (map form (lines text)) (blank width size) in
    number-if width size image w (eqb (length image) size) (eqb w.number 0) (sym (ap (λ (l : Loaded). l.number) (outcome-is form width size text image)) ∙ h)

-- a load goes by its walk
pub load-by : (form : List ℕ → Record) (width size : ℕ) (text other image : List ℕ) → walk 0 (map form (lines other)) (blank width size) ≡ walk 0 (map form (lines text)) (blank width size)
    → load form width size other image ≡ load form width size text image
unfolding load
load-by form width size text other image e = rw e

-- what the loads of each image use
pub ruleset loads = (map-id, load-short)
