-- A text in capitals and the same in small letters: each line says the same. Assumes nothing.
use mathlib.Core.Path.{◌≡◌, refl, sym, ap, ap₂, ◌∙◌}
use mathlib.Core.Bool.{Bool, true, false, cond, ◌&&◌, and-eq-true_iff}
use mathlib.Core.List.{List, [], ◌∷◌, map}
use Prim.Native.Nat.{ℕ, ◌+◌, ◌-◌, ◌*◌, ◌%◌, ◌<◌, ◌≤◌}
use native.Mathlib.Omega.{arith}
use lib.ListN.{length, get_or, take, drop, length-map, get_or-map}
use lib.Dec.{eqb, ltb, leb}
use borrow.Author.Tests.{leb-true, lt-ltb, le-ltb, ne_eqb}
use Rattle.std.proofs.lemmas.List.{take-map, drop-map}
use Rattle.image.specs.Hexadecimal.{digit, byte, byte_at, bytes_of, all_digits}
use Rattle.image.specs.Lines.{lines, onto}
use Rattle.image.specs.IntelHex.{ending, characters, formed, record_head, data_place, data_part, intel_hex}
use Rattle.image.specs.Record.{Record}
use Rattle.image.specs.Image.{walk, load}
use Rattle.image.specs.Promises.{capital, small, InCapitals, InSmallLetters}
use Rattle.image.proofs.Records.{head-by}
use Rattle.image.proofs.Walking.{records, record-by}
use Rattle.image.proofs.Loads.{blank, load-by}

-- two characters that may stand in each other's place: one digit, and both or neither a given sign before the letters, as colon and line feed
record Twin (c d : ℕ) : Type 0 where
  value : digit c ≡ digit d
  sign : (k : ℕ) → k < 65 → eqb c k ≡ eqb d k

twin : (c : ℕ) → Twin c c
twin c = record { value = refl; sign = λ k h. refl }

turned : (c d : ℕ) → Twin c d → Twin d c
turned c d t = record { value = sym t.value; sign = λ k h. sym (t.sign k h) }

-- a capital A to F and its small letter are both u - 55
letter : (u v : ℕ) → 65 ≤ u → u ≤ 70 → v ≡ u + 32 → Twin u v
unfolding digit
letter u v h k e = record {
  value =
      rw (
        le-ltb u 48 (omega arith),
        le-ltb u 58 (omega arith),
        le-ltb u 65 h,
        lt-ltb u 71 (omega arith),
        le-ltb v 48 (omega arith),
        le-ltb v 58 (omega arith),
        le-ltb v 65 (omega arith),
        le-ltb v 71 (omega arith),
        le-ltb v 97 (omega arith),
        lt-ltb v 103 (omega arith),
      ) (omega arith);
  sign = λ i l. ne_eqb u i (λ z. omega arith) ∙ sym (ne_eqb v i (λ z. omega arith));
}

-- a change of characters that no line shows
record Alike (f : ℕ → ℕ) : Type 0 where
  zero-kept : f 0 ≡ 0
  twins : (c : ℕ) → Twin (f c) c

capital-if : (c : ℕ) (b : Bool) → (leb 97 c && leb c 102) ≡ b → Twin (cond b (c - 32) c) c
capital-if c true e =
    let p = (and-eq-true_iff (leb 97 c) (leb c 102)).0 e in
    let low = leb-true 97 c p.0 in
    let high = leb-true c 102 p.1 in
    letter (c - 32) c (omega arith) (omega arith) (omega arith)
capital-if c false e = twin c

capital-alike : Alike capital
capital-alike = record { zero-kept = refl; twins = λ c. capital-if c (leb 97 c && leb c 102) refl }

small-if : (c : ℕ) (b : Bool) → (leb 65 c && leb c 70) ≡ b → Twin (cond b (c + 32) c) c
small-if c true e =
    let p = (and-eq-true_iff (leb 65 c) (leb c 70)).0 e in
    turned c (c + 32) (letter c (c + 32) (leb-true 65 c p.0) (leb-true c 70 p.1) refl)
small-if c false e = twin c

small-alike : Alike small
small-alike = record { zero-kept = refl; twins = λ c. small-if c (leb 65 c && leb c 70) refl }

part-map : (f : ℕ → ℕ) (n k : ℕ) (l : List ℕ) → take n (drop k (map f l)) ≡ map f (take n (drop k l))
part-map f n k l = ap (take n) (drop-map f k l) ∙ take-map f n (drop k l)

lines-if : (f : ℕ → ℕ) (c : ℕ) (ls : List (List ℕ)) (b : Bool)
    → cond b ((f c ∷ []) ∷ map (map f) ls) (onto (f c) (map (map f) ls)) ≡ map (map f) (cond b ((c ∷ []) ∷ ls) (onto c ls))
lines-if f c ls true = refl
lines-if f c [] false = refl
lines-if f c (l ∷ ls) false = refl

byte-by : (c d x y : ℕ) → digit c ≡ digit x → digit d ≡ digit y → byte c d ≡ byte x y
unfolding byte
byte-by c d x y p q = ap₂ (λ (h k : ℕ). (h * 16 + k) % 256) p q

module _ (f : ℕ → ℕ) (a : Alike f) where
  value-is : (c : ℕ) → digit (f c) ≡ digit c
  value-is c = (a.twins c).value

  lines-alike : (t : List ℕ) → lines (map f t) ≡ map (map f) (lines t)
  unfolding lines
  lines-alike [] = refl
  lines-alike (c ∷ t) = rw ((a.twins c).sign 10 (omega arith), lines-alike t) (lines-if f c (lines t) (eqb c 10))

  digits-alike : (l : List ℕ) → all_digits (map f l) ≡ all_digits l
  unfolding all_digits
  digits-alike [] = refl
  digits-alike (c ∷ l) = ap₂ (λ (d : ℕ) (b : Bool). ltb d 16 && b) (value-is c) (digits-alike l)

  bytes-alike : (l : List ℕ) → bytes_of (map f l) ≡ bytes_of l
  unfolding bytes_of
  bytes-alike [] = refl
  bytes-alike (c ∷ []) = refl
  bytes-alike (c ∷ d ∷ l) = ap₂ (λ (b : ℕ) (bs : List ℕ). b ∷ bs) (byte-by (f c) (f d) c d (value-is c) (value-is d)) (bytes-alike l)

  -- beyond a line's end there is a 0, which is kept
  at-alike : (l : List ℕ) (i : ℕ) → get_or (map f l) i 0 ≡ f (get_or l i 0)
  at-alike l i = ap (get_or (map f l) i) (sym a.zero-kept) ∙ get_or-map f l i 0

  sign_at : (l : List ℕ) (i k : ℕ) → k < 65 → eqb (get_or (map f l) i 0) k ≡ eqb (get_or l i 0) k
  sign_at l i k h = ap (λ (c : ℕ). eqb c k) (at-alike l i) ∙ (a.twins (get_or l i 0)).sign k h

  byte-at : (l : List ℕ) (i : ℕ) → byte_at (map f l) i ≡ byte_at l i
  unfolding byte_at
  byte-at l i =
      let value-at : (j : ℕ) → digit (get_or (map f l) j 0) ≡ digit (get_or l j 0) = λ j. ap digit (at-alike l j) ∙ value-is (get_or l j 0) in
      byte-by (get_or (map f l) i 0) (get_or (map f l) (i + 1) 0) (get_or l i 0) (get_or l (i + 1) 0) (value-at i) (value-at (i + 1))

  ending-alike : (l : List ℕ) → ending (map f l) ≡ ending l
  unfolding ending
  ending-alike l = rw (length-map l f, sign_at l (length l - 2) 13 (omega arith))

  characters-alike : (l : List ℕ) → characters (map f l) ≡ map f (characters l)
  characters-alike l = rw (ending-alike l) (part-map f (ending l - 1) 1 l)

  formed-alike : (l : List ℕ) → formed (map f l) ≡ formed l
  unfolding formed
  formed-alike l =
      rw (
        characters-alike l,
        digits-alike (characters l),
        ending-alike l,
        byte-at l 1,
        byte-at l 7,
        length-map l f,
        sign_at l 0 58 (omega arith),
        sign_at l (length l - 1) 10 (omega arith),
      )

  head-alike : (l : List ℕ) → record_head (map f l) ≡ record_head l
  head-alike l = head-by l (map f l) (formed-alike l) (rw (characters-alike l, bytes-alike (characters l))) (λ i h. byte-at l i)

  data-alike : (l : List ℕ) → bytes_of (data_part (map f l)) ≡ bytes_of (data_part l)
  unfolding data_part
  data-alike l =
      let n = 2 * (record_head l).length in
      rw (head-alike l, part-map f n data_place l) (bytes-alike (take n (drop data_place l)))

  records-alike : (ls : List (List ℕ)) → map intel_hex (map (map f) ls) ≡ map intel_hex ls
  records-alike [] = refl
  records-alike (l ∷ ls) =
      ap₂ (λ (r : Record) (rs : List Record). r ∷ rs) (record-by l (map f l) (head-alike l) (data-alike l)) (records-alike ls)

  load-alike : (width size : ℕ) (text image : List ℕ) → load intel_hex width size (map f text) image ≡ load intel_hex width size text image
  load-alike width size text image =
      let e : records (map f text) ≡ records text = ap (map intel_hex) (lines-alike text) ∙ records-alike (lines text) in
      load-by intel_hex width size text (map f text) image (ap (λ (rs : List Record). walk 0 rs (blank width size)) e)

pub in-capitals : InCapitals
in-capitals = load-alike capital capital-alike

pub in-small-letters : InSmallLetters
in-small-letters = load-alike small small-alike
