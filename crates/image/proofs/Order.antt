-- The order of the data records makes no difference: two neighbours that are both taken can change places. Assumes nothing.
use mathlib.Core.Path.{◌≡◌, refl, sym, ap, subst, ◌∙◌}
use mathlib.Core.Bool.{Bool, true, false, cond}
use mathlib.Core.List.Permᴰ
use mathlib.Core.List.{List, [], ◌∷◌, ◌++◌, map, Permᴰ}
use Prim.Native.Nat.{ℕ, ◌+◌, ◌<◌}
use native.Mathlib.Omega.{arith}
use lib.ListN.{length, get_or, set, get_or-eq_default}
use lib.Seq.{get_or-set_same, get_or-set_other, set_comm}
use lib.Dec.{eqb, ltb}
use borrow.Author.Tests.{eqb-true, eqb-false, ltb-true, ltb-false}
use Rattle.numbers.specs.Every.{Every}
use Rattle.image.specs.Hexadecimal.{byte, bytes_of}
use Rattle.image.specs.Lines.{lines, joined}
use Rattle.image.specs.IntelHex.{data_part, intel_hex}
use Rattle.image.specs.Record.{Record}
use Rattle.image.specs.Image.{Given, given, give, Walked, some, walk}
use Rattle.image.specs.Promises.{AnyOrder}
use Rattle.image.proofs.Giving.{give-free, give-taken}
use Rattle.image.proofs.Walking.{walk-on}
use Rattle.image.proofs.Taking.{first}
use Rattle.image.proofs.Loads.{blank, walk-taken, load-by}
use Rattle.image.proofs.Proper.{Good, lines-joined, load-good}

-- no byte is the mark of a free place
byte-given : (x y : ℕ) → byte x y ≡ 256 → ⊥
unfolding byte
byte-given x y e = omega (arith, e)

free-if : (a b : ℕ) (bs g : List ℕ) (t : Bool) → eqb (get_or g a 0) 256 ≡ t → (give a (b ∷ bs) g).number ≡ 0 → get_or g a 0 ≡ 256
free-if a b bs g true q h = eqb-true (get_or g a 0) 256 q
free-if a b bs g false q h =
    absurd (omega (arith, h, ap (λ (p : Given). p.number) (give-taken a b bs g (eqb-false (get_or g a 0) 256 q))))

-- where a byte was given none was before
pub was_free : (a b : ℕ) (bs g g' : List ℕ) → give a (b ∷ bs) g ≡ given 0 g' → get_or g a 0 ≡ 256
was_free a b bs g g' h = free-if a b bs g (eqb (get_or g a 0) 256) refl (ap (λ (p : Given). p.number) h)

-- outside of the image nothing is free: 0 is read there
pub free-inside : (g : List ℕ) (a : ℕ) (t : Bool) → ltb a (length g) ≡ t → get_or g a 0 ≡ 256 → a < length g
free-inside g a true q e = ltb-true a (length g) q
free-inside g a false q e = absurd (omega (arith, e, get_or-eq_default g 0 (ltb-false a (length g) q)))

-- what is free after a byte was set is another place, since the byte is not 256
set-elsewhere : (g : List ℕ) (a b a' : ℕ) → (b ≡ 256 → ⊥) → get_or g a 0 ≡ 256 → get_or (set g a b) a' 0 ≡ 256 → a' ≡ a → ⊥
set-elsewhere g a b a' n e f s =
    n (sym (get_or-set_same g a b 0 (free-inside g a (ltb a (length g)) refl e)) ∙ ap (λ (k : ℕ). get_or (set g a b) k 0) (sym s) ∙ f)

-- bytes that are taken after a byte are taken before it, too
record Before (a b a' : ℕ) (bs g g₂ : List ℕ) : Type 0 where
  left : List ℕ
  gave : give a' bs g ≡ given 0 left
  free : get_or left a 0 ≡ 256
  same : set left a b ≡ g₂

before : (a b : ℕ) → (b ≡ 256 → ⊥) → (bs : List ℕ) (a' : ℕ) (g g₂ : List ℕ) → get_or g a 0 ≡ 256 → give a' bs (set g a b) ≡ given 0 g₂
    → Before a b a' bs g g₂
unfolding give
before a b n [] a' g g₂ e h = record { left = g; gave = refl; free = e; same = ap (λ (p : Given). p.bytes) h }
before a b n (x ∷ bs) a' g g₂ e h =
    let f : get_or (set g a b) a' 0 ≡ 256 = was_free a' x bs (set g a b) g₂ h in
    let d : a' ≡ a → ⊥ = set-elsewhere g a b a' n e f in
    let e' : get_or (set g a' x) a 0 ≡ 256 = get_or-set_other g a' a x 0 (λ s. d (sym s)) ∙ e in
    let f' : get_or g a' 0 ≡ 256 = sym (get_or-set_other g a a' b 0 d) ∙ f in
    let h' = ap (give (a' + 1) bs) (set_comm g a' a x b d) ∙ sym (give-free a' x bs (set g a b) f) ∙ h in
    let i = before a b n bs (a' + 1) (set g a' x) g₂ e' h' in
    record { left = i.left; gave = give-free a' x bs g f' ∙ i.gave; free = i.free; same = i.same }

-- and so, byte by byte, are bytes that are taken after a whole record
record Swapped (a : ℕ) (bs : List ℕ) (a' : ℕ) (bs' g g₂ : List ℕ) : Type 0 where
  between : List ℕ
  first : give a' bs' g ≡ given 0 between
  second : give a bs between ≡ given 0 g₂

module _ (a' : ℕ) (bs' g₁ g₂ : List ℕ) (k : give a' bs' g₁ ≡ given 0 g₂) where
  swapped : (cs : List ℕ) (a : ℕ) (g : List ℕ) → give a (bytes_of cs) g ≡ given 0 g₁ → Swapped a (bytes_of cs) a' bs' g g₂
  unfolding bytes_of give
  swapped [] a g h = record { between = g₂; first = ap (λ (p : Given). give a' bs' p.bytes) h ∙ k; second = refl }
  swapped (x ∷ []) a g h = record { between = g₂; first = ap (λ (p : Given). give a' bs' p.bytes) h ∙ k; second = refl }
  swapped (x ∷ y ∷ cs) a g h =
      let e = was_free a (byte x y) (bytes_of cs) g g₁ h in
      let i = swapped cs (a + 1) (set g a (byte x y)) (sym (give-free a (byte x y) (bytes_of cs) g e) ∙ h) in
      let b = before a (byte x y) (byte-given x y) bs' a' g i.between e i.first in
      record {
        between = b.left;
        first = b.gave;
        second = give-free a (byte x y) (bytes_of cs) b.left b.free ∙ ap (give (a + 1) (bytes_of cs)) b.same ∙ i.second;
      }

-- a data record that is taken, and what it leaves
record Taken (r : Record) (g : List ℕ) : Type 0 where
  good : r.number ≡ 0
  on : r.last ≡ false
  left : List ℕ
  gave : give r.address r.bytes g ≡ given 0 left

-- in a text that is taken, a record with others after it is taken, and is no end record
taken : (line : ℕ) (r : Record) (rs : List Record) (g : List ℕ) → some rs ≡ true → (walk line (r ∷ rs) g).number ≡ 0 → Taken r g
taken line r rs g more h =
    first line r rs g h (λ n l m e. absurd (omega (arith, ap (λ (t : Bool). cond {A = ℕ} t 1 0) (sym more ∙ e))))
    (λ n l g' gave e. record { good = n; on = l; left = g'; gave = gave })

pass : (line : ℕ) (r : Record) (rs : List Record) (g : List ℕ) (t : Taken r g) → walk line (r ∷ rs) g ≡ walk (line + 1) rs t.left
pass line r rs g t = walk-on line r rs g t.good t.on t.left t.gave

-- the records of some lines and of the last
abbrev up_to : List ℕ → List (List ℕ) → List Record
up_to end ls = map intel_hex (ls ++ end ∷ [])

some-up-to : (end : List ℕ) (ls : List (List ℕ)) → some (up_to end ls) ≡ true
some-up-to end [] = refl
some-up-to end (l ∷ ls) = refl

-- two neighbours that are taken leave the same in either order
swap-two : (line : ℕ) (l l' : List ℕ) (rs : List Record) (g : List ℕ) (t : Taken (intel_hex l) g) → Taken (intel_hex l') t.left
    → walk line (intel_hex l' ∷ intel_hex l ∷ rs) g ≡ walk line (intel_hex l ∷ intel_hex l' ∷ rs) g
unfolding intel_hex
swap-two line l l' rs g t u =
    let r = intel_hex l in
    let r' = intel_hex l' in
    let s = swapped r'.address r'.bytes t.left u.left u.gave (data_part l) r.address g t.gave in
    walk-on line r' (r ∷ rs) g u.good u.on s.between s.first
    ∙ walk-on (line + 1) r rs s.between t.good t.on u.left s.second
    ∙ sym (pass line r (r' ∷ rs) g t ∙ pass (line + 1) r' rs t.left u)

-- along the steps of a reordering; each leaves a text that is taken, so that the next can begin
same-walk : (end : List ℕ) {ds es : List (List ℕ)} → Permᴰ ds es → (line : ℕ) (g : List ℕ) → (walk line (up_to end ds) g).number ≡ 0
    → walk line (up_to end es) g ≡ walk line (up_to end ds) g
same-walk end Permᴰ.nil line g h = refl
same-walk end (Permᴰ.cons {a} {b} {l₁} {l₂} e d) line g h =
    let t = taken line (intel_hex a) (up_to end l₁) g (some-up-to end l₁) h in
    let p = pass line (intel_hex a) (up_to end l₁) g t in
    ap (λ (l : List ℕ). walk line (up_to end (l ∷ l₂)) g) (sym e) ∙ pass line (intel_hex a) (up_to end l₂) g t
    ∙ same-walk end d (line + 1) t.left (sym (ap (λ (w : Walked). w.number) p) ∙ h) ∙ sym p
same-walk end (Permᴰ.swap {a} {b} {a'} {b'} {l} e f) line g h =
    let t = taken line (intel_hex a) (up_to end (b ∷ l)) g refl h in
    let p = pass line (intel_hex a) (up_to end (b ∷ l)) g t in
    let u = taken (line + 1) (intel_hex b) (up_to end l) t.left (some-up-to end l) (sym (ap (λ (w : Walked). w.number) p) ∙ h) in
    ap (λ (x : List ℕ). walk line (up_to end (x ∷ b' ∷ l)) g) (sym f) ∙ ap (λ (x : List ℕ). walk line (up_to end (b ∷ x ∷ l)) g) (sym e)
    ∙ swap-two line a b (up_to end l) g t u
same-walk end (Permᴰ.trans d d') line g h =
    let e = same-walk end d line g h in
    same-walk end d' line g (ap (λ (w : Walked). w.number) e ∙ h) ∙ e

-- what holds of each member holds of each in another order
every-perm : {A : Type 0} (P : A → Type 0) {xs ys : List A} → Permᴰ xs ys → Every P xs → Every P ys
every-perm P Permᴰ.nil p = tt
every-perm P (Permᴰ.cons e d) p = (subst P e p.0, every-perm P d p.1)
every-perm P (Permᴰ.swap e f) p = (subst P f p.1.0, (subst P e p.0, p.1.1))
every-perm P (Permᴰ.trans d d') p = every-perm P d' (every-perm P d p)

pub any_order : AnyOrder
any_order width size text image ds es end p perm accepted =
    let w : List (List ℕ) → Walked = λ ls. walk 0 (map intel_hex ls) (blank width size) in
    let h : (w (ds ++ end ∷ [])).number ≡ 0 = ap (λ (ls : List (List ℕ)). (w ls).number) (sym p) ∙ walk-taken intel_hex width size text image accepted in
    let g : Every Good (ds ++ end ∷ []) = subst (Every Good) p (load-good width size text image accepted) in
    let other = es ++ end ∷ [] in
    let q : lines (joined other) ≡ other = lines-joined other (every-perm Good (Permᴰ.append_right (end ∷ []) perm) g) in
    load-by intel_hex width size text (joined other) image (ap w q ∙ same-walk end perm 0 (blank width size) h ∙ ap w (sym p))
