-- What a line that is not refused has, and each way in which one is. Assumes nothing.
use mathlib.Core.Path.{◌≡◌, refl, sym, ap, ◌∙◌}
use mathlib.Core.Bool.{Bool, true, false, cond, not, ◌&&◌}
use mathlib.Core.List.{List, []}
use Prim.Native.Nat.{ℕ, ◌+◌, ◌-◌, ◌*◌, ◌%◌, ◌≤◌}
use native.Mathlib.Omega.{arith}
use lib.ListN.{length, get_or, take, drop}
use lib.Dec.{eqb, ltb, leb}
use borrow.Author.Tests.{leb-true, le-leb, eqb-true, eq-eqb, ne_eqb, le-ltb, ltb-false}
use Rattle.std.specs.List.{fold}
use Rattle.refusals.specs.Refusals.{number_of}
use Rattle.refusals.specs.declared.Refusal.{Refusal}
use Rattle.image.specs.Hexadecimal.{byte_at, bytes_of, all_digits}
use Rattle.image.specs.IntelHex.{characters, record_type, data_length, address, ending, formed, checked, refused, said, record_head, data_place, data_part, data_start}
use Rattle.image.specs.IntelHex.{RecordHead}
use Rattle.image.proofs.Characters.{sum-all}
use Rattle.refusals.proofs.Numbers.{not_0}

ending-if : (b : Bool) (n : ℕ) → (n - 2 ≤ cond b (n - 2) (n - 1)) × (cond b (n - 2) (n - 1) ≤ n - 1)
ending-if true n = (omega arith, omega arith)
ending-if false n = (omega arith, omega arith)

-- the ending begins one or two characters before the line's end
pub ending-near : (l : List ℕ) → (length l - 2 ≤ ending l) × (ending l ≤ length l - 1)
unfolding ending
ending-near l = ending-if (eqb (get_or l (length l - 2) 0) 13) (length l)

left : (a b : Bool) → (a && b) ≡ true → a ≡ true
left true b h = refl
left false b h = h

right : (a b : Bool) → (a && b) ≡ true → b ≡ true
right true b h = h
right false b h = absurd (omega (arith, ap (λ (t : Bool). cond {A = ℕ} t 1 0) h))

pub record Formed (l : List ℕ) : Type 0 where
  pub long : 12 ≤ length l
  pub colon : get_or l 0 0 ≡ 58
  pub line-feed : get_or l (length l - 1) 0 ≡ 10
  pub digits : all_digits (characters l) ≡ true
  pub fits : ending l ≡ 11 + 2 * data_length l
  pub bare : not (eqb (record_type l) 1 && not (eqb (data_length l) 0)) ≡ true

pub formed-has : (l : List ℕ) → formed l ≡ true → Formed l
unfolding formed
formed-has l h =
    let h1 = right (leb 12 (length l)) _ h in
    let h2 = right (eqb (get_or l 0 0) 58) _ h1 in
    let h3 = right (eqb (get_or l (length l - 1) 0) 10) _ h2 in
    let h4 = right (all_digits (characters l)) _ h3 in
    record {
      long = leb-true 12 (length l) (left (leb 12 (length l)) _ h);
      colon = eqb-true (get_or l 0 0) 58 (left (eqb (get_or l 0 0) 58) _ h1);
      line-feed = eqb-true (get_or l (length l - 1) 0) 10 (left (eqb (get_or l (length l - 1) 0) 10) _ h2);
      digits = left (all_digits (characters l)) _ h3;
      fits = eqb-true (ending l) (11 + 2 * data_length l) (left (eqb (ending l) (11 + 2 * data_length l)) _ h4);
      bare = right (eqb (ending l) (11 + 2 * data_length l)) _ h4;
    }

pub formed-by : (l : List ℕ) → Formed l → formed l ≡ true
unfolding formed
formed-by l f =
    rw (
      le-leb 12 (length l) f.long,
      eq-eqb (get_or l 0 0) 58 f.colon,
      eq-eqb (get_or l (length l - 1) 0) 10 f.line-feed,
      f.digits,
      eq-eqb (ending l) (11 + 2 * data_length l) f.fits,
    ) f.bare

-- ways in which a record is read
module _ (l : List ℕ) where
  pub head-13 : formed l ≡ true → checked l ≡ false → record_head l ≡ refused 13
  unfolding record_head
  head-13 f s = rw (f, s)

  pub head-said : formed l ≡ true → checked l ≡ true → record_head l ≡ said l
  unfolding record_head
  head-said f s = rw (f, s)

  pub said-0 : record_type l ≤ 1 → said l ≡ record { number = 0; kind = record_type l; address = address l; length = data_length l }
  unfolding said
  said-0 t = rw (le-ltb _ _ t)

-- the same by the tests
chosen-type : List ℕ → Bool → RecordHead
chosen-type l t = cond t (refused 14) (record { number = 0; kind = record_type l; address = address l; length = data_length l })

chosen : List ℕ → Bool → Bool → Bool → RecordHead
chosen l f c t = cond f (cond c (chosen-type l t) (refused 13)) (refused 12)

module _ (l : List ℕ) where
  head-is : record_head l ≡ chosen l (formed l) (checked l) (ltb 1 (record_type l))
  unfolding record_head said chosen chosen-type
  head-is = refl

  good-if : (f c t : Bool) → (chosen l f c t).number ≡ 0 → (f ≡ true) × (c ≡ true) × (t ≡ false)
  unfolding chosen chosen-type
  good-if true true true h = absurd (omega arith)
  good-if true true false h = (refl, refl, refl)
  good-if true false t h = absurd (omega arith)
  good-if false c t h = absurd (omega arith)

  -- a record that is not refused has passed each test
  pub good : (record_head l).number ≡ 0 → (formed l ≡ true) × (checked l ≡ true) × (ltb 1 (record_type l) ≡ false)
  good h = good-if (formed l) (checked l) (ltb 1 (record_type l)) (sym (ap (λ (r : RecordHead). r.number) head-is) ∙ h)

  length-if : (f c t : Bool) → ((chosen l f c t).number ≡ 0 → ⊥) → (chosen l f c t).length ≡ 0
  unfolding chosen chosen-type
  length-if true true true h = refl
  length-if true true false h = absurd (h refl)
  length-if true false t h = refl
  length-if false c t h = refl

  pub refused-length : ((record_head l).number ≡ 0 → ⊥) → (record_head l).length ≡ 0
  refused-length h =
      ap (λ (r : RecordHead). r.length) head-is
      ∙ length-if (formed l) (checked l) (ltb 1 (record_type l)) (λ z. h (ap (λ (r : RecordHead). r.number) head-is ∙ z))

  -- a refused record's part is empty, and stands at the line's beginning
  pub part-refused : ((record_head l).number ≡ 0 → ⊥) → (data_part l ≡ []) × (data_start l ≡ 0)
  unfolding data_part data_start
  part-refused h = (ap (λ (n : ℕ). take (2 * n) (drop data_place l)) (refused-length h), rw (ne_eqb _ _ h))

  pub start-good : (record_head l).number ≡ 0 → data_start l ≡ data_place
  unfolding data_start
  start-good h = rw (eq-eqb _ _ h)

  pub head-good : (record_head l).number ≡ 0 → record_head l ≡ record { number = 0; kind = record_type l; address = address l; length = data_length l }
  head-good h =
      let p = good h in
      head-said l p.0 p.1 ∙ said-0 l (omega (arith, ltb-false 1 (record_type l) p.2))

  pub length-good : (record_head l).number ≡ 0 → (record_head l).length ≡ data_length l
  length-good h = ap (λ (r : RecordHead). r.length) (head-good h)

  -- the data characters of a good record stand in the line, before its check byte
  pub part-within : (record_head l).number ≡ 0 → 12 + 2 * (record_head l).length ≤ length l
  part-within h =
      let f = formed-has l (good h).0 in
      omega (arith, f.long, f.fits, ending-near l, length-good h)

-- lines with the same tests and the same first bytes have the same head
pub head-by : (l m : List ℕ) → formed m ≡ formed l → checked m ≡ checked l → ((i : ℕ) → i ≤ 7 → byte_at m i ≡ byte_at l i)
    → record_head m ≡ record_head l
unfolding record_head said
head-by l m f c b = rw (f, c, b 1 (omega arith), b 3 (omega arith), b 5 (omega arith), b 7 (omega arith))

-- a record whose bytes do not add up to 0
pub head-sum : (l : List ℕ) → formed l ≡ true → (fold (λ s b. (s + b) % 256) 0 (bytes_of (characters l)) ≡ 0 → ⊥) → record_head l ≡ refused 13
head-sum l f s = head-13 l f (ne_eqb _ 0 (λ z. s (sym (sum-all (bytes_of (characters l))) ∙ z)))

-- the part of a record that says this of itself, and none of one that is refused
pub part-said : (l : List ℕ) (h : RecordHead) → h ≡ record_head l → data_part l ≡ take (2 * h.length) (drop 9 l)
unfolding data_part
part-said l h e = ap (λ (r : RecordHead). take (2 * r.length) (drop 9 l)) (sym e)

pub is-refused : (l : List ℕ) (r : Refusal) → refused (number_of r) ≡ record_head l → (record_head l).number ≡ 0 → ⊥
is-refused l r e z = not_0 r (ap (λ (h : RecordHead). h.number) e ∙ z)

-- what `record_head` uses, and what `data_part` uses
pub ruleset heads = (formed-has, head-sum, sum-all)

pub ruleset parts = (part-refused, part-said, is-refused, start-good, part-within)
