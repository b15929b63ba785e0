-- A text line by line. Assumes nothing.
use mathlib.Core.Path.{◌≡◌, refl, ap}
use mathlib.Core.Bool.{Bool, true, false, cond, not}
use mathlib.Core.List.{List, [], ◌∷◌}
use Prim.Native.Nat.{ℕ, suc, ◌+◌, ◌≤◌, min}
use native.Mathlib.Omega.{arith}
use lib.ListN.{length, take, drop}
use lib.Dec.{eqb, ltb}
use borrow.Author.Tests.{ltb-true, ltb-false}
use Rattle.std.specs.Prelude.{Option, Some, None}
use Rattle.std.specs.List.{position, position_or_len}
use Rattle.image.specs.Lines.{lines, line_length, onto}

-- the first line goes as far as the first line feed, or else to the text's end
length-if : (b : Bool) (m k n : ℕ) → m ≡ min (k + 1) n → suc (cond b 0 m) ≡ min (cond (not b) (1 + k) 0 + 1) (suc n)
length-if true m k n e = omega arith
length-if false m k n e = omega arith

length-is : (t : List ℕ) → line_length t ≡ min (position_or_len (λ c. eqb c 10) t + 1) (length t)
unfolding line_length
length-is [] = omega arith
length-is (c ∷ t) = length-if (eqb c 10) (line_length t) (position_or_len (λ c. eqb c 10) t) (length t) (length-is t)

feed-if : (t : List ℕ) (b : Bool) (i k : ℕ) → ltb k (length t) ≡ b → ◌≡◌ {A = Option ℕ} (cond b (Some k) None) (Some i) → line_length t ≡ min (k + 1) (length t) → line_length t ≡ i + 1
feed-if t true i k l e h = let s : k ≡ i = cc in omega (arith, ltb-true k (length t) l)
feed-if t false i k l e h = cc

pub length-feed : (t : List ℕ) (i : ℕ) → position (λ c. eqb c 10) t ≡ Some i → line_length t ≡ i + 1
length-feed t i e =
    let k = position_or_len (λ c. eqb c 10) t in
    feed-if t (ltb k (length t)) i k refl e (length-is t)

none-if : (t : List ℕ) (b : Bool) (k : ℕ) → ltb k (length t) ≡ b → ◌≡◌ {A = Option ℕ} (cond b (Some k) None) None → line_length t ≡ min (k + 1) (length t) → line_length t ≡ length t
none-if t true k l e h = cc
none-if t false k l e h = omega (arith, ltb-false k (length t) l)

pub length-none : (t : List ℕ) → position (λ c. eqb c 10) t ≡ None → line_length t ≡ length t
length-none t e =
    let k = position_or_len (λ c. eqb c 10) t in
    none-if t (ltb k (length t)) k refl e (length-is t)

-- the first line is cut off
Cut : List ℕ → Type 0
Cut t = lines t ≡ take (line_length t) t ∷ lines (drop (line_length t) t)

cut-if : (c d : ℕ) (t : List ℕ) (b : Bool) → eqb c 10 ≡ b → Cut (d ∷ t) → Cut (c ∷ d ∷ t)
unfolding Cut lines line_length
cut-if c d t true e h = rw e
cut-if c d t false e h = rw e (ap (onto c) h)

cut-one : (c : ℕ) (b : Bool) → eqb c 10 ≡ b → Cut (c ∷ [])
unfolding Cut lines line_length
cut-one c true e = rw e
cut-one c false e = rw e

cut : (c : ℕ) (t : List ℕ) → Cut (c ∷ t)
cut c [] = cut-one c (eqb c 10) refl
cut c (d ∷ t) = cut-if c d t (eqb c 10) refl (cut d t)

pub lines_cut : (t : List ℕ) → (length t ≡ 0 → ⊥) → lines t ≡ take (line_length t) t ∷ lines (drop (line_length t) t)
unfolding Cut
lines_cut [] h = absurd (h refl)
lines_cut (c ∷ t) h = cut c t

pub lines_none : (t : List ℕ) → length t ≡ 0 → lines t ≡ []
unfolding lines
lines_none [] e = refl
lines_none (c ∷ t) e = absurd (omega arith)

within-if : (b : Bool) (k n : ℕ) → k ≤ n → suc (cond b 0 k) ≤ suc n
within-if true k n h = omega arith
within-if false k n h = omega arith

pub length-within : (t : List ℕ) → line_length t ≤ length t
unfolding line_length
length-within [] = omega arith
length-within (c ∷ t) = within-if (eqb c 10) (line_length t) (length t) (length-within t)

-- a line has at least one character
count-onto : (c : ℕ) (ls : List (List ℕ)) (n : ℕ) → length ls ≤ n → length (onto c ls) ≤ suc n
count-onto c [] n h = omega arith
count-onto c (l ∷ ls) n h = omega arith

count-if : (c : ℕ) (t : List ℕ) (b : Bool) → length (lines t) ≤ length t → length (cond b ((c ∷ []) ∷ lines t) (onto c (lines t))) ≤ suc (length t)
count-if c t true h = omega arith
count-if c t false h = count-onto c (lines t) (length t) h

pub lines-count : (t : List ℕ) → length (lines t) ≤ length t
unfolding lines
lines-count [] = omega arith
lines-count (c ∷ t) = count-if c t (eqb c 10) (lines-count t)

-- what `line_length` uses, and what the iterator over lines does
pub ruleset lengths = (length-feed, length-none)

pub ruleset cuts = (lines_cut, lines_none, length-within)
