-- An image filled cell by cell, and that of a text that is taken no byte is missing. Assumes nothing.
use mathlib.Core.Path.{◌≡◌, refl, sym, ap, ◌∙◌}
use mathlib.Core.Bool.{Bool, true, false, cond, ◌||◌}
use mathlib.Core.List.{List, [], ◌∷◌, ◌++◌, map, append-nil, append_assoc}
use Prim.Native.Nat.{ℕ, zero, suc, ◌+◌, ◌-◌, ◌*◌, ◌<◌, ◌≤◌}
use native.Mathlib.Omega.{arith}
use native.Mathlib.Numerals.{add-one}
use native.Mathlib.Nat.{mul-zero, mul-one, mul-suc, mul-add, add_comm}
use lib.ListN.{length, get_or, take, drop, set, length-map, drop_of_length-le}
use lib.Seq.{take-suc-set, take-length, drop-cons, drop-drop}
use Rattle.std.proofs.lemmas.List.{map-set, take-map, drop-map}
use Rattle.std.specs.Prelude.{Option, Some, None, IsSome}
use Rattle.image.specs.Record.{Record}
use Rattle.image.specs.Image.{Walked, missing, walk, value, cells}
use Rattle.image.specs.Replies.{mark, marks}
use Rattle.image.proofs.Walking.{walk-last}
use Rattle.image.proofs.Taking.{never, first}

pub cells-length : (w n : ℕ) (g : List ℕ) → length (cells w n g) ≡ n
unfolding cells
cells-length w zero g = refl
cells-length w (suc n) g = ap suc (cells-length w n (drop w g))

pub cells_at : (w n : ℕ) (g : List ℕ) (i : ℕ) → i < n → get_or (cells w n g) i 0 ≡ value (take w (drop (w * i) g))
unfolding cells
cells_at w zero g i h = absurd (omega arith)
cells_at w (suc n) g zero h = rw mul-zero
cells_at w (suc n) g (suc i) h = rw (mul-suc, add_comm (w * i) w, ← drop-drop (w * i) w g) (cells_at w n (drop w g) i (omega arith))

pub neither : (a b : Bool) → (a || b) ≡ false → (a ≡ false) × (b ≡ false)
neither true b h = absurd (omega (arith, ap (λ (t : Bool). cond {A = ℕ} t 1 0) h))
neither false b h = (refl, h)

-- of a text that is taken no byte is missing
pub walk-whole : (line : ℕ) (rs : List Record) (g : List ℕ) → (walk line rs g).number ≡ 0 → missing (walk line rs g).bytes ≡ false
walk-whole line [] g h = absurd (never line g h)
walk-whole line (r ∷ rs) g h =
    first line r rs g h (λ n l m e. ap (λ (w : Walked). missing w.bytes) (walk-last line r rs g n l) ∙ m)
    (λ n l g' gave e. ap (λ (w : Walked). missing w.bytes) e ∙ walk-whole (line + 1) rs g' (sym (ap (λ (w : Walked). w.number) e) ∙ h))

-- where none is missing each address has a byte
pub whole-some : (g : List (Option ℕ)) (i : ℕ) → missing (marks g) ≡ false → i < length g → IsSome (get_or g i None)
unfolding missing
whole-some [] i m h = absurd (omega arith)
whole-some (None ∷ g) i m h = absurd (omega (arith, ap (λ (t : Bool). cond {A = ℕ} t 1 0) m))
whole-some (Some b ∷ g) zero m h = refl
whole-some (Some b ∷ g) (suc i) m h = whole-some g i (neither _ (missing (marks g)) m).1 (omega arith)

pub whole-take : (n : ℕ) (g : List (Option ℕ)) → missing (marks g) ≡ false → missing (marks (take n g)) ≡ false
unfolding missing
whole-take zero g m = refl
whole-take (suc n) [] m = refl
whole-take (suc n) (x ∷ g) m =
    let p = neither _ (missing (marks g)) m in
    rw p.0 (whole-take n g p.1)

pub whole-drop : (n : ℕ) (g : List (Option ℕ)) → missing (marks g) ≡ false → missing (marks (drop n g)) ≡ false
unfolding missing
whole-drop zero g m = m
whole-drop (suc n) [] m = m
whole-drop (suc n) (x ∷ g) m = whole-drop n g (neither _ (missing (marks g)) m).1

-- the number that bytes spell, from one on
pub value-next : (g : List (Option ℕ)) (i a : ℕ) → i < length g → get_or g i None ≡ Some a → a < 256 → value (marks (drop i g)) ≡ a + 256 * value (marks (drop (i + 1) g))
unfolding value
value-next g i a h e s = rw (drop-cons g i None h, e, add-one i) (omega arith)

pub value-end : (g : List (Option ℕ)) (i : ℕ) → length g ≤ i → value (marks (drop i g)) ≡ 0
unfolding value
value-end g i h = rw (drop_of_length-le g {i = i} h)

-- the bytes of one more cell are there, and then those of the cells that are left
module _ (w i n r : ℕ) (e : r + w * i ≡ w * n) (h : i < n) where
  part : w * n ≡ w * i + w + w * (n - (i + 1))
  part =
      let k : n ≡ i + 1 + (n - (i + 1)) = omega arith in
      ap (λ (m : ℕ). w * m) k ∙ mul-add w (i + 1) (n - (i + 1)) ∙ ap (λ (m : ℕ). m + w * (n - (i + 1))) (mul-add w i 1 ∙ ap (λ (m : ℕ). w * i + m) (mul-one w))

  pub cell-room : w ≤ r
  cell-room = omega (arith, part)

  pub cell-left : r - w + w * (i + 1) ≡ w * n
  cell-left = omega (arith, cell-room, mul-add w i 1, mul-one w)

-- one more cell is the cell wanted
pub fill-next : (w n i : ℕ) (done rest want : List ℕ) → i < n → done ++ cells w (n - i) rest ≡ want
    → (done ++ value (take w rest) ∷ []) ++ cells w (n - (i + 1)) (drop w rest) ≡ want
unfolding cells
fill-next w n i done rest want h e =
    let k : n - i ≡ suc (n - (i + 1)) = omega arith in
    append_assoc done (value (take w rest) ∷ []) (cells w (n - (i + 1)) (drop w rest)) ∙ (rw k at e)

-- the same of an image, filled from what was given for the cell
pub fill-more : {C : Type 0} (number : C → ℕ) (w n i : ℕ) (image : List C) (v : C) (front rest back : List (Option ℕ)) (want : List ℕ)
    → i < n → length image ≡ n → number v ≡ value (marks front) → front ≡ take w rest → back ≡ drop w rest
    → take i (map number image) ++ cells w (n - i) (marks rest) ≡ want
    → take (i + 1) (map number (set image i v)) ++ cells w (n - (i + 1)) (marks back) ≡ want
fill-more number w n i image v front rest back want h size is at_front at_back so_far =
    let here = map number image in
    let inside : i < length here = omega (arith, length-map image number) in
    let cell : number v ≡ value (take w (marks rest)) = is ∙ ap (λ (b : List (Option ℕ)). value (marks b)) at_front ∙ ap value (sym (take-map mark w rest)) in
    let more : take (i + 1) (map number (set image i v)) ≡ take i here ++ value (take w (marks rest)) ∷ [] =
    ap (take (i + 1)) (map-set number image i v) ∙ rw (add-one i) (take-suc-set here i (number v) inside) ∙ ap (λ (x : ℕ). take i here ++ x ∷ []) cell in
    let left : marks back ≡ drop w (marks rest) = ap marks at_back ∙ sym (drop-map mark w rest) in
    rw (more, left) (fill-next w n i (take i here) (marks rest) want h so_far)

-- and in the end all cells are
pub fill-all : (w n i : ℕ) (done rest want : List ℕ) → length done ≡ n → i ≡ n → take i done ++ cells w (n - i) rest ≡ want → done ≡ want
unfolding cells
fill-all w n i done rest want l h e =
    let k : n - i ≡ 0 = omega arith in
    let all : take i done ≡ done = ap (λ (m : ℕ). take m done) (h ∙ sym l) ∙ take-length done in
    sym (append-nil done) ∙ ap (λ (x : List ℕ). x ++ []) (sym all) ∙ (rw k at e)

-- what `from_given` uses
pub ruleset bytes = (whole-some)
