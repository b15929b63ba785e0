-- A text that is taken has good lines only, and a text of good lines is cut into them again. Assumes nothing.
use mathlib.Core.Path.{◌≡◌, refl, sym, ap, subst, ◌∙◌}
use mathlib.Core.Bool.{Bool, true, false, cond, and-eq-true_iff}
use mathlib.Core.List.{List, [], ◌∷◌, ◌++◌, map}
use Prim.Native.Nat.{ℕ, zero, suc, ◌+◌, ◌-◌, ◌<◌, ◌≤◌}
use native.Mathlib.Omega.{arith}
use lib.ListN.{length, get_or, take, drop, take-append-drop, drop_of_length-le}
use lib.Seq.{drop-cons}
use lib.Dec.{eqb, ltb}
use borrow.Author.Tests.{ltb-true, ltb-false, ne_eqb, eqb-true}
use Rattle.numbers.specs.Every.{Every}
use Rattle.image.specs.Hexadecimal.{digit, all_digits}
use Rattle.image.specs.Lines.{lines, onto, joined}
use Rattle.image.specs.IntelHex.{ending, characters, record_head, intel_hex}
use Rattle.image.specs.Image.{Walked, some, walk, load}
use Rattle.image.proofs.Records.{Formed, formed-has, good}
use Rattle.image.proofs.Taking.{first}
use Rattle.image.proofs.Loads.{blank, walk-taken}

-- characters from the first digit on: no line feed and no carriage return
abbrev pub Plain : List ℕ → Type 0
Plain = Every (λ c. 48 ≤ c)

-- what is below the first digit has the value 16
digit-if : (c d : ℕ) (b : Bool) → ltb c 48 ≡ b → cond b 16 d < 16 → 48 ≤ c
digit-if c d true e h = absurd (omega arith)
digit-if c d false e h = ltb-false c 48 e

digit_low : (c : ℕ) → digit c < 16 → 48 ≤ c
unfolding digit
digit_low c h = digit-if c _ (ltb c 48) refl h

plain-digits : (cs : List ℕ) → all_digits cs ≡ true → Plain cs
unfolding all_digits
plain-digits [] h = tt
plain-digits (c ∷ cs) h =
    let p = (and-eq-true_iff (ltb (digit c) 16) (all_digits cs)).0 h in
    (digit_low c (ltb-true (digit c) 16 p.0), plain-digits cs p.1)

-- a colon and plain characters
plain-from : (l : List ℕ) (n : ℕ) → get_or l 0 0 ≡ 58 → Plain (take (n - 1) (drop 1 l)) → Plain (take n l)
plain-from l zero e p = tt
plain-from [] (suc n) e p = tt
plain-from (c ∷ l) (suc n) e p =
    let k : suc n - 1 ≡ n = omega arith in
    (omega arith, subst (λ (i : ℕ). Plain (take i l)) k p)

-- a line that is cut off whatever stands behind it
abbrev Proper : List ℕ → Type 0
Proper l = (t : List ℕ) → lines (l ++ t) ≡ l ∷ lines t

-- no plain character is a line feed
plain-before : (b e : List ℕ) → Plain b → Proper e → Proper (b ++ e)
unfolding lines
plain-before [] e p x t = x t
plain-before (c ∷ b) e p x t = rw (ne_eqb c 10 (λ z. omega (arith, p.0))) (ap (onto c) (plain-before b e p.1 x t))

feed-proper : Proper (10 ∷ [])
unfolding lines
feed-proper t = refl

return-proper : Proper (13 ∷ 10 ∷ [])
unfolding lines
return-proper t = refl

-- a line whose record is not refused
abbrev pub Good : List ℕ → Type 0
Good l = (record_head l).number ≡ 0

module _ (l : List ℕ) (h : Good l) where
  pub fine : Formed l
  fine = formed-has l (good l h).0

  pub body-plain : Plain (take (ending l) l)
  body-plain = plain-from l (ending l) fine.colon (plain-digits (characters l) fine.digits)

  -- a good line ends with a line feed, and where the test in `ending` holds with both
  last_one : drop (length l - 1) l ≡ 10 ∷ []
  last_one =
      drop-cons l (length l - 1) 0 (omega (arith, fine.long))
      ∙ rw (fine.line-feed, drop_of_length-le l {i = suc (length l - 1)} (omega arith))

  last-two : get_or l (length l - 2) 0 ≡ 13 → drop (length l - 2) l ≡ 13 ∷ 10 ∷ []
  last-two e =
      let k : suc (length l - 2) ≡ length l - 1 = omega (arith, fine.long) in
      drop-cons l (length l - 2) 0 (omega (arith, fine.long)) ∙ rw (e, k, last_one)

  ending-if : (b : Bool) → eqb (get_or l (length l - 2) 0) 13 ≡ b → Proper (drop (ending l) l)
  unfolding ending
  ending-if true e = rw e (subst Proper (sym (last-two (eqb-true _ 13 e))) return-proper)
  ending-if false e = rw e (subst Proper (sym last_one) feed-proper)

  good-proper : Proper l
  good-proper =
      subst Proper (take-append-drop (ending l) l)
      (plain-before (take (ending l) l) (drop (ending l) l) body-plain (ending-if (eqb (get_or l (length l - 2) 0) 13) refl))

-- so lines that are put together are found again
pub lines-joined : (ls : List (List ℕ)) → Every Good ls → lines (joined ls) ≡ ls
unfolding lines joined
lines-joined [] g = refl
lines-joined (l ∷ ls) g = good-proper l g.0 (joined ls) ∙ ap (λ (r : List (List ℕ)). l ∷ r) (lines-joined ls g.1)

-- nothing follows the end record of a text that is taken
none : (ls : List (List ℕ)) → some (map intel_hex ls) ≡ false → Every Good ls
none [] e = tt
none (l ∷ ls) e = absurd (omega (arith, ap (λ (t : Bool). cond {A = ℕ} t 1 0) e))

walk-good : (line : ℕ) (ls : List (List ℕ)) (g : List ℕ) → (walk line (map intel_hex ls) g).number ≡ 0 → Every Good ls
unfolding intel_hex
walk-good line [] g h = tt
walk-good line (l ∷ ls) g h =
    first line (intel_hex l) (map intel_hex ls) g h (λ n last m e. (n, none ls e))
    (λ n last g' gave e. (n, walk-good (line + 1) ls g' (sym (ap (λ (w : Walked). w.number) e) ∙ h)))

-- each line of a text that is taken is good
pub load-good : (width size : ℕ) (text image : List ℕ) → (load intel_hex width size text image).number ≡ 0 → Every Good (lines text)
load-good width size text image h = walk-good 0 (lines text) (blank width size) (walk-taken intel_hex width size text image h)
