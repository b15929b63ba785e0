-- The records of a text, one line after the other. Assumes nothing.
use mathlib.Core.Path.{◌≡◌, refl, sym, ap, ◌∙◌}
use mathlib.Core.Bool.{Bool, true, false, cond}
use mathlib.Core.List.{List, [], ◌∷◌, map}
use Prim.Native.Nat.{ℕ, ◌+◌, ◌*◌, ◌≤◌}
use native.Mathlib.Omega.{arith}
use lib.ListN.{length, take, drop}
use lib.Dec.{eqb}
use borrow.Author.Tests.{eq-eqb, ne_eqb, eqb-true, eqb-false}
use Rattle.std.specs.Prelude.{Option, Some, None, MatchOption, is_some}
use Rattle.image.specs.Hexadecimal.{bytes_of}
use Rattle.image.specs.Lines.{lines}
use Rattle.refusals.specs.Refusals.{number_of}
use Rattle.refusals.specs.declared.Refusal.{Refusal}
use Rattle.image.specs.IntelHex.{refused, record_head, data_part, intel_hex}
use Rattle.image.specs.IntelHex.{RecordHead}
use Rattle.image.specs.Record.{Record}
use Rattle.image.specs.Image.{Given, given, give, missing, Walked, walked, at, ended, unended, some, walk}
use Rattle.image.specs.Replies.{put}
use Rattle.image.proofs.Records.{is-refused, part-within}

-- the records of a text
abbrev pub records : List ℕ → List Record
records t = map intel_hex (lines t)

-- lines with the same head and the same data bytes are the same record
pub record-by : (l m : List ℕ) → record_head m ≡ record_head l → bytes_of (data_part m) ≡ bytes_of (data_part l) → intel_hex m ≡ intel_hex l
unfolding intel_hex
record-by l m h d = rw (h, d)

-- one record, by its tests
turn : ℕ → Record → List Record → List ℕ → Bool → Bool → Bool → Walked
turn line r rs g good last free =
    let p = give r.address r.bytes g in
    cond good (cond last (walked (ended (line + 1) (some rs) g) g) (cond free (walk (line + 1) rs p.bytes) (walked (at (line + 1) p.number) p.bytes)))
    (walked (at (line + 1) r.number) g)

turn_is : (line : ℕ) (r : Record) (rs : List Record) (g : List ℕ)
    → walk line (r ∷ rs) g ≡ turn line r rs g (eqb r.number 0) r.last (eqb (give r.address r.bytes g).number 0)
unfolding walk turn
turn_is line r rs g = refl

module _ (line : ℕ) (r : Record) (rs : List Record) (g : List ℕ) where
  pub walk_refused : (r.number ≡ 0 → ⊥) → walk line (r ∷ rs) g ≡ walked (at (line + 1) r.number) g
  unfolding turn
  walk_refused b = rw (turn_is line r rs g, ne_eqb r.number 0 b)

  pub walk-last : r.number ≡ 0 → r.last ≡ true → walk line (r ∷ rs) g ≡ walked (ended (line + 1) (some rs) g) g
  unfolding turn
  walk-last b l = rw (turn_is line r rs g, eq-eqb r.number 0 b, l)

  pub walk-on : r.number ≡ 0 → r.last ≡ false → (g' : List ℕ) → give r.address r.bytes g ≡ given 0 g' → walk line (r ∷ rs) g ≡ walk (line + 1) rs g'
  unfolding turn
  walk-on b l g' p = rw (turn_is line r rs g, eq-eqb r.number 0 b, l, p)

  pub walk-outside : r.number ≡ 0 → r.last ≡ false → (n : ℕ) (g' : List ℕ) → give r.address r.bytes g ≡ given n g' → (n ≡ 0 → ⊥)
      → walk line (r ∷ rs) g ≡ walked (at (line + 1) n) g'
  unfolding turn
  walk-outside b l n g' p z = rw (turn_is line r rs g, eq-eqb r.number 0 b, l, p, ne_eqb n 0 z)

-- an end record behind which nothing stands, when no address is missing
pub walk-closed : (line : ℕ) (r : Record) (g : List ℕ) → r.number ≡ 0 → r.last ≡ true → missing g ≡ false → walk line (r ∷ []) g ≡ walked (at (line + 1) 0) g
unfolding ended
walk-closed line r g b l m = walk-last line r [] g b l ∙ rw m

-- a line's record put at its addresses
put-if : Record → List ℕ → Bool → Bool → Given
put-if r g good last = cond good (cond last (given 0 g) (give r.address r.bytes g)) (given r.number g)

put_is : (r : Record) (g : List ℕ) → put r g ≡ put-if r g (eqb r.number 0) r.last
unfolding put put-if
put_is r g = refl

module _ (r : Record) (g : List ℕ) where
  put-refused : (r.number ≡ 0 → ⊥) → put r g ≡ given r.number g
  unfolding put-if
  put-refused b = put_is r g ∙ rw (ne_eqb r.number 0 b)

  put-last : r.number ≡ 0 → r.last ≡ true → put r g ≡ given 0 g
  unfolding put-if
  put-last b l = put_is r g ∙ rw (eq-eqb r.number 0 b, l)

  put-data : r.number ≡ 0 → r.last ≡ false → put r g ≡ give r.address r.bytes g
  unfolding put-if
  put-data b l = put_is r g ∙ rw (eq-eqb r.number 0 b, l)

-- the same of a line, by what reading its head gave
module _ (line g : List ℕ) where
  pub line-refused : (r : Refusal) → refused (number_of r) ≡ record_head line → put (intel_hex line) g ≡ given (number_of r) g
  unfolding intel_hex
  line-refused r e =
      let n : number_of r ≡ (record_head line).number = ap (λ (h : RecordHead). h.number) e in
      put-refused (intel_hex line) g (λ z. is-refused line r e z) ∙ ap (λ (k : ℕ). given k g) (sym n)

  module _ (h : RecordHead) (e : h ≡ record_head line) (b : h.number ≡ 0) where
    pub line-last : (intel_hex line).last ≡ eqb h.kind 1
    unfolding intel_hex
    line-last = ap (λ (r : RecordHead). eqb r.kind 1) (sym e)

    is-good : (intel_hex line).number ≡ 0
    unfolding intel_hex
    is-good = ap (λ (r : RecordHead). r.number) (sym e) ∙ b

    pub line-end : h.kind ≡ 1 → put (intel_hex line) g ≡ given 0 g
    line-end k = put-last (intel_hex line) g is-good (line-last ∙ eq-eqb _ _ k)

    pub line-data : (h.kind ≡ 1 → ⊥) → (part : List ℕ) → part ≡ take (2 * h.length) (drop 9 line)
        → put (intel_hex line) g ≡ give h.address (bytes_of part) g
    unfolding intel_hex data_part
    line-data k part at_part =
        put-data (intel_hex line) g is-good (line-last ∙ ne_eqb _ _ k)
        ∙ ap (λ (r : RecordHead). give r.address (bytes_of (take (2 * r.length) (drop 9 line))) g) (sym e)
        ∙ ap (λ (l : List ℕ). give h.address (bytes_of l) g) (sym at_part)

    pub line-within : 9 + 2 * h.length ≤ length line
    line-within = omega (arith, ap (λ (r : RecordHead). r.length) e, part-within line (sym (ap (λ (r : RecordHead). r.number) e) ∙ b))

-- whether there is a line after an end record
pub some-next : {X : Type 0} (o : Option X) (ls more : List (List ℕ)) (view : X → List ℕ)
    → MatchOption o ((ls ≡ []) × (more ≡ [])) (λ x. ls ≡ view x ∷ more) → is_some o ≡ some (map intel_hex ls)
some-next None ls more view h = sym (ap (λ (l : List (List ℕ)). some (map intel_hex l)) h.0)
some-next (Some x) ls more view h = sym (ap (λ (l : List (List ℕ)). some (map intel_hex l)) h)

-- the first of the lines that are left, with what putting its record left
module _ (line : ℕ) (ls more : List (List ℕ)) (here g : List ℕ) (cut : ls ≡ here ∷ more) (n : ℕ) (g' : List ℕ) (p : given n g' ≡ put (intel_hex here) g) where
  abbrev r : Record
  r = intel_hex here

  first : walk line (map intel_hex ls) g ≡ walk line (r ∷ map intel_hex more) g
  first = ap (λ (l : List (List ℕ)). walk line (map intel_hex l) g) cut

  stop-if : (good last : Bool) → eqb r.number 0 ≡ good → r.last ≡ last → (n ≡ 0 → ⊥) → walk line (r ∷ map intel_hex more) g ≡ walked (at (line + 1) n) g'
  stop-if true true b l z = absurd (z (ap (λ (q : Given). q.number) (p ∙ put-last r g (eqb-true _ _ b) l)))
  stop-if true false b l z =
      walk-outside line r (map intel_hex more) g (eqb-true _ _ b) l n g' (sym (p ∙ put-data r g (eqb-true _ _ b) l)) z
  stop-if false last b l z =
      let q = p ∙ put-refused r g (eqb-false _ _ b) in
      walk_refused line r (map intel_hex more) g (eqb-false _ _ b)
      ∙ ap (λ (k : Given). walked (at (line + 1) k.number) k.bytes) (sym q)

  pub text-stop : (n ≡ 0 → ⊥) → walk line (map intel_hex ls) g ≡ walked (at (line + 1) n) g'
  text-stop z = first ∙ stop-if (eqb r.number 0) r.last refl refl z

  end-if : (good : Bool) → eqb r.number 0 ≡ good → n ≡ 0 → r.last ≡ true → walk line (r ∷ map intel_hex more) g ≡ walked (ended (line + 1) (some (map intel_hex more)) g') g'
  end-if true b z l =
      walk-last line r (map intel_hex more) g (eqb-true _ _ b) l
      ∙ ap (λ (q : Given). walked (ended (line + 1) (some (map intel_hex more)) q.bytes) q.bytes) (sym (p ∙ put-last r g (eqb-true _ _ b) l))
  end-if false b z l = absurd (eqb-false _ _ b (sym (ap (λ (q : Given). q.number) (p ∙ put-refused r g (eqb-false _ _ b))) ∙ z))

  pub text-end : n ≡ 0 → r.last ≡ true → walk line (map intel_hex ls) g ≡ walked (ended (line + 1) (some (map intel_hex more)) g') g'
  text-end z l = first ∙ end-if (eqb r.number 0) refl z l

  on-if : (good : Bool) → eqb r.number 0 ≡ good → n ≡ 0 → r.last ≡ false → walk line (r ∷ map intel_hex more) g ≡ walk (line + 1) (map intel_hex more) g'
  on-if true b z l =
      walk-on line r (map intel_hex more) g (eqb-true _ _ b) l g' (sym (p ∙ put-data r g (eqb-true _ _ b) l) ∙ ap (λ (k : ℕ). given k g') z)
  on-if false b z l = absurd (eqb-false _ _ b (sym (ap (λ (q : Given). q.number) (p ∙ put-refused r g (eqb-false _ _ b))) ∙ z))

  pub text-on : n ≡ 0 → r.last ≡ false → walk line (map intel_hex ls) g ≡ walk (line + 1) (map intel_hex more) g'
  text-on z l = first ∙ on-if (eqb r.number 0) refl z l

pub walk-over : (line : ℕ) (ls : List (List ℕ)) (g : List ℕ) → ls ≡ [] → walk line (map intel_hex ls) g ≡ walked (unended line g) g
unfolding walk
walk-over line ls g e = ap (λ (l : List (List ℕ)). walk line (map intel_hex l) g) e

-- what `take_line` uses
pub ruleset puts = (line-refused, line-last, line-end, line-data, line-within)
