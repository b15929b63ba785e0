-- Each byte of a text that is taken stands at its address. Assumes nothing.
use mathlib.Core.Path.{◌≡◌, refl, sym, ap, ◌∙◌}
use mathlib.Core.Bool.{Bool, true, false, cond, and-eq-true_iff}
use mathlib.Core.List.{List, [], ◌∷◌}
use Prim.Native.Nat.{ℕ, zero, suc, ◌+◌, ◌-◌, ◌*◌, ◌<◌, ◌≤◌}
use native.Mathlib.Omega.{arith}
use native.Mathlib.Numerals.{add-one}
use native.Mathlib.Nat.{mul-suc}
use lib.ListN.{length, get_or, take, drop, set, length-set, length-replicate, get_or-replicate}
use lib.Seq.{get_or-set_same, get_or-set_other, drop-cons}
use lib.Dec.{eqb, ltb, leb}
use borrow.Author.Tests.{eq-eqb, ne_eqb, eqb-true, eqb-false, ltb-true, leb-true, lt-ltb, le-leb}
use Rattle.numbers.specs.Every.{Every}
use Rattle.image.specs.Lines.{lines}
use Rattle.image.specs.Record.{Record}
use Rattle.image.specs.IntelHex.{intel_hex}
use Rattle.image.specs.Image.{Given, given, give, Walked, at, walk, value, cells, Loaded, load}
use Rattle.image.proofs.CellBytes.{Bytes, member_below}
use Rattle.image.proofs.Giving.{give-free}
use Rattle.image.proofs.Order.{was_free, free-inside}
use Rattle.image.proofs.Walking.{walk-last}
use Rattle.image.proofs.Taking.{never, first}
use Rattle.image.proofs.Fills.{cells-length, cells_at}
use Rattle.image.proofs.Loads.{blank, walk-taken, load-short, load-taken}
use Rattle.loads.specs.Given.{gives, byte_for, bytes_for}
use Rattle.loads.specs.Promises.{records, InItsPlace}
use Rattle.loads.proofs.Free.{none_free, is_free}
use Rattle.loads.proofs.Taken.{Sound, all_sound}

-- a byte that is given elsewhere leaves a place as it is
elsewhere : (x : ℕ) (bs : List ℕ) (a : ℕ) (g g' : List ℕ) → give a bs g ≡ given 0 g' → (a ≤ x → x < a + length bs → ⊥) → get_or g' x 0 ≡ get_or g x 0
unfolding give
elsewhere x [] a g g' h o = ap (λ (p : Given). get_or p.bytes x 0) (sym h)
elsewhere x (b ∷ bs) a g g' h o =
    let f = was_free a b bs g g' h in
    elsewhere x bs (a + 1) (set g a b) g' (sym (give-free a b bs g f) ∙ h) (λ u v. o (omega arith) (omega arith))
    ∙ get_or-set_other g a x b 0 (λ e. o (omega arith) (omega arith))

-- and one that is given for it was not given before
record Put (x a : ℕ) (bs g g' : List ℕ) : Type 0 where
  was : get_or g x 0 ≡ 256
  is : get_or g' x 0 ≡ get_or bs (x - a) 0

module _ (x b : ℕ) (bs : List ℕ) (a : ℕ) (g g' : List ℕ) (h : give a (b ∷ bs) g ≡ given 0 g') where
  free-here : get_or g a 0 ≡ 256
  free-here = was_free a b bs g g' h

  rest : give (a + 1) bs (set g a b) ≡ given 0 g'
  rest = sym (give-free a b bs g free-here) ∙ h

  put_if : a ≤ x → (a + 1 ≤ x → Put x (a + 1) bs (set g a b) g') → (t : Bool) → eqb a x ≡ t → Put x a (b ∷ bs) g g'
  put_if u later true e =
      let s : a ≡ x = eqb-true a x e in
      let k : x - a ≡ 0 = omega arith in
      record {
        was = ap (λ (i : ℕ). get_or g i 0) (sym s) ∙ free-here;
        is =
            elsewhere x bs (a + 1) (set g a b) g' rest (λ u v. omega arith)
            ∙ ap (λ (i : ℕ). get_or (set g a b) i 0) (sym s)
            ∙ get_or-set_same g a b 0 (free-inside g a (ltb a (length g)) refl free-here)
            ∙ ap (λ (i : ℕ). get_or (b ∷ bs) i 0) (sym k);
      }
  put_if u later false e =
      let d = eqb-false a x e in
      let i = later (omega (arith, d)) in
      let k : x - a ≡ suc (x - (a + 1)) = omega (arith, d) in
      record {
        was = sym (get_or-set_other g a x b 0 (λ s. d (sym s))) ∙ i.was;
        is = i.is ∙ ap (λ (n : ℕ). get_or (b ∷ bs) n 0) (sym k);
      }

put : (x : ℕ) (bs : List ℕ) (a : ℕ) (g g' : List ℕ) → give a bs g ≡ given 0 g' → a ≤ x → x < a + length bs → Put x a bs g g'
put x [] a g g' h u v = absurd (omega arith)
put x (b ∷ bs) a g g' h u v =
    put_if x b bs a g g' h u (λ w. put x bs (a + 1) (set g a b) g' (rest x b bs a g g' h) w (omega arith)) (eqb a x) refl

-- what stands at a place when a text was taken: what was there, or what its records give for it
left : List ℕ → List Record → ℕ → ℕ
left g rs x = cond (eqb (get_or g x 0) 256) (byte_for rs x) (get_or g x 0)

left-free : (g : List ℕ) (rs : List Record) (x : ℕ) → get_or g x 0 ≡ 256 → left g rs x ≡ byte_for rs x
unfolding left
left-free g rs x e = rw (eq-eqb _ _ e)

left-taken : (g : List ℕ) (rs : List Record) (x : ℕ) → (get_or g x 0 ≡ 256 → ⊥) → left g rs x ≡ get_or g x 0
unfolding left
left-taken g rs x e = rw (ne_eqb _ _ e)

left-same : (g g' : List ℕ) (rs : List Record) (x : ℕ) → get_or g' x 0 ≡ get_or g x 0 → left g' rs x ≡ left g rs x
unfolding left
left-same g g' rs x e = rw e

-- the first record of several, by whether it gives the place
module _ (r : Record) (rs : List Record) (g g' : List ℕ) (s : Bytes r.bytes) (gave : give r.address r.bytes g ≡ given 0 g') (x : ℕ) where
  inside : gives r x ≡ true → (r.address ≤ x) × (x < r.address + length r.bytes)
  inside e =
      let p = (and-eq-true_iff (leb r.address x) (ltb x (r.address + length r.bytes))).0 e in
      (leb-true _ _ p.0, ltb-true _ _ p.1)

  outside : gives r x ≡ false → r.address ≤ x → x < r.address + length r.bytes → ⊥
  outside e u v =
      let p = (and-eq-true_iff (leb r.address x) (ltb x (r.address + length r.bytes))).1 (le-leb _ _ u, lt-ltb _ _ v) in
      omega (arith, ap (λ (t : Bool). cond {A = ℕ} t 1 0) (sym p ∙ e))

  given-first : gives r x ≡ true → byte_for (r ∷ rs) x ≡ get_or r.bytes (x - r.address) 0
  given-first e = rw e

  given-later : gives r x ≡ false → byte_for (r ∷ rs) x ≡ byte_for rs x
  given-later e = rw e

  later-if : (b : Bool) → eqb (get_or g x 0) 256 ≡ b → gives r x ≡ false → left g (r ∷ rs) x ≡ left g rs x
  later-if true q e = left-free g (r ∷ rs) x (eqb-true _ _ q) ∙ given-later e ∙ sym (left-free g rs x (eqb-true _ _ q))
  later-if false q e = left-taken g (r ∷ rs) x (eqb-false _ _ q) ∙ sym (left-taken g rs x (eqb-false _ _ q))

  one-if : (b : Bool) → gives r x ≡ b → left g' rs x ≡ left g (r ∷ rs) x
  one-if true e =
      let p = put x r.bytes r.address g g' gave (inside e).0 (inside e).1 in
      left-taken g' rs x (λ z. omega (arith, z, p.is, member_below r.bytes (x - r.address) s))
      ∙ p.is ∙ sym (left-free g (r ∷ rs) x p.was ∙ given-first e)
  one-if false e =
      left-same g g' rs x (elsewhere x r.bytes r.address g g' gave (outside e)) ∙ sym (later-if (eqb (get_or g x 0) 256) refl e)

  one : left g' rs x ≡ left g (r ∷ rs) x
  one = one-if (gives r x) refl

walk-left : (line : ℕ) (rs : List Record) (g : List ℕ) → Every Sound rs → (walk line rs g).number ≡ 0 → (x : ℕ) → get_or (walk line rs g).bytes x 0 ≡ left g rs x
walk-left line [] g s h x = absurd (never line g h)
walk-left line (r ∷ rs) g s h x =
    first line r rs g h
    (λ n l m e.
    ap (λ (w : Walked). get_or w.bytes x 0) (walk-last line r rs g n l)
    ∙ sym (left-taken g (r ∷ rs) x (λ z. omega (arith, none_free g m x, is_free g x z))))
    (λ n l g' gave e.
    ap (λ (w : Walked). get_or w.bytes x 0) e
    ∙ walk-left (line + 1) rs g' s.1 (sym (ap (λ (w : Walked). w.number) e) ∙ h) x ∙ one r rs g g' s.0.0 gave x)

-- a list that has at each place what is given for it is what is given for all of them
cut : (rs : List Record) (g : List ℕ) → ((x : ℕ) → x < length g → get_or g x 0 ≡ byte_for rs x) → (count a : ℕ) → a + count ≤ length g
    → take count (drop a g) ≡ bytes_for rs count a
cut rs g h zero a u = refl
cut rs g h (suc count) a u =
    let v : a < length g = omega arith in
    rw (drop-cons g a 0 v, ← add-one a, h a v) (ap (λ (l : List ℕ). byte_for rs a ∷ l) (cut rs g h count (a + 1) (omega arith)))

give-length : (bs : List ℕ) (a : ℕ) (g g' : List ℕ) → give a bs g ≡ given 0 g' → length g' ≡ length g
unfolding give
give-length [] a g g' h = ap (λ (p : Given). length p.bytes) (sym h)
give-length (b ∷ bs) a g g' h =
    give-length bs (a + 1) (set g a b) g' (sym (give-free a b bs g (was_free a b bs g g' h)) ∙ h) ∙ length-set g a b

walk-length : (line : ℕ) (rs : List Record) (g : List ℕ) → (walk line rs g).number ≡ 0 → length (walk line rs g).bytes ≡ length g
walk-length line [] g h = absurd (never line g h)
walk-length line (r ∷ rs) g h =
    first line r rs g h
    (λ n l m e. ap (λ (w : Walked). length w.bytes) (walk-last line r rs g n l))
    (λ n l g' gave e.
    ap (λ (w : Walked). length w.bytes) e ∙ walk-length (line + 1) rs g' (sym (ap (λ (w : Walked). w.number) e) ∙ h)
    ∙ give-length r.bytes r.address g g' gave)

-- the addresses of a cell are within the image
within-if : (width size cell : ℕ) → cell < suc size → (cell < size → width * cell + width ≤ width * size) → (t : Bool) → eqb cell size ≡ t
    → width * cell + width ≤ width * size + width
within-if width size cell h i true e = omega (arith, ap (λ (k : ℕ). width * k) (eqb-true cell size e))
within-if width size cell h i false e = omega (arith, i (omega (arith, eqb-false cell size e)))

within : (width size cell : ℕ) → cell < size → width * cell + width ≤ width * size
within width zero cell h = absurd (omega arith)
within width (suc size) cell h = rw mul-suc (within-if width size cell h (within width size cell) (eqb cell size) refl)

-- an image that is filled was lent with the right length
long-if : (width size : ℕ) (text image : List ℕ) (t : Bool) → eqb (length image) size ≡ t → (load intel_hex width size text image).number ≡ 0 → length image ≡ size
long-if width size text image true e h = eqb-true _ _ e
long-if width size text image false e h =
    absurd (omega (arith, h, ap (λ (x : Loaded). x.number) (load-short intel_hex width size text image (eqb-false _ _ e))))

load-long : (width size : ℕ) (text image : List ℕ) → (load intel_hex width size text image).number ≡ 0 → length image ≡ size
load-long width size text image = long-if width size text image (eqb (length image) size) refl

-- and has the cells that the walk left
filled : (width size : ℕ) (text image : List ℕ) → (load intel_hex width size text image).number ≡ 0
    → (load intel_hex width size text image).image ≡ cells width size (walk 0 (records text) (blank width size)).bytes
filled width size text image h =
    let w = walk 0 (records text) (blank width size) in
    ap (λ (x : Loaded). x.image)
    (load-taken intel_hex width size text image (load-long width size text image h) (at w.line w.number) w.bytes refl
    (walk-taken intel_hex width size text image h))

pub filled-long : (width size : ℕ) (text image : List ℕ) → (load intel_hex width size text image).number ≡ 0
    → length (load intel_hex width size text image).image ≡ size
filled-long width size text image h =
    ap (λ (l : List ℕ). length l) (filled width size text image h) ∙ cells-length width size (walk 0 (records text) (blank width size)).bytes

pub in-its-place : InItsPlace
in-its-place width size text image h cell c =
    let rs = records text in
    let w = walk 0 rs (blank width size) in
    let z = walk-taken intel_hex width size text image h in
    let long : length w.bytes ≡ width * size = walk-length 0 rs (blank width size) z ∙ length-replicate {A = ℕ} (width * size) 256 in
    let at_place : (x : ℕ) → x < length w.bytes → get_or w.bytes x 0 ≡ byte_for rs x = λ x u.
    walk-left 0 rs (blank width size) (all_sound (lines text)) z x
    ∙ left-free (blank width size) rs x (get_or-replicate (width * size) x 256 0 (omega (arith, long))) in
    ap (λ (l : List ℕ). get_or l cell 0) (filled width size text image h)
    ∙ cells_at width size w.bytes cell c
    ∙ ap value (cut rs w.bytes at_place width (width * cell) (omega (arith, long, within width size cell c)))
