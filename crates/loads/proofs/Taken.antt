-- Which texts are taken: along a walk, what is free is what is still to be given. Assumes nothing.
use mathlib.Core.Path.{◌≡◌, refl, sym, ap, ◌∙◌}
use mathlib.Core.Bool.{Bool, true, false, cond, not, ◌&&◌}
use mathlib.Core.List.{List, [], ◌∷◌, ◌++◌, map}
use Prim.Native.Nat.{ℕ, ◌+◌, ◌*◌}
use native.Mathlib.Omega.{arith}
use lib.ListN.{take, drop}
use lib.Dec.{eqb}
use borrow.Author.Tests.{eq-eqb, eqb-true, eqb-false}
use Rattle.numbers.specs.Every.{Every}
use Rattle.image.specs.Hexadecimal.{bytes_of}
use Rattle.image.specs.Lines.{lines}
use Rattle.image.specs.Record.{Record}
use Rattle.image.specs.IntelHex.{data_length, record_type, record_head, data_part, intel_hex}
use Rattle.image.specs.IntelHex.{RecordHead}
use Rattle.image.specs.Image.{given, give, Walked, at, walk, Loaded}
use Rattle.image.proofs.CellBytes.{Bytes, bytes_below}
use Rattle.image.proofs.Records.{formed-has, good, head-good, length-good, refused-length}
use Rattle.image.proofs.Walking.{walk-on, walk-closed}
use Rattle.image.proofs.Taking.{never, first}
use Rattle.image.proofs.Loads.{blank, walk-taken, load-taken}
use Rattle.loads.specs.Given.{Closed, from, addresses, times}
use Rattle.loads.specs.Promises.{records, TakenExactly}
use Rattle.loads.proofs.Free.{free, give-counts, give-fits, none_free, none-missing, blank-free}

-- a record of bytes, and without any if it ends the text
abbrev pub Sound : Record → Type 0
Sound r = Bytes r.bytes × (r.last ≡ true → r.bytes ≡ [])

times-append : (x : ℕ) (ks ls : List ℕ) → times x (ks ++ ls) ≡ times x ks + times x ls
times-append x [] ls = omega arith
times-append x (k ∷ ks) ls = omega (arith, times-append x ks ls)

-- the addresses of the first record, and those of the others
times-first : (x : ℕ) (r : Record) (rs : List Record) → times x (addresses (r ∷ rs)) ≡ times x (from r.address r.bytes) + times x (addresses rs)
times-first x r rs = times-append x (from r.address r.bytes) (addresses rs)

-- an end record gives nothing
times-last : (x : ℕ) (r : Record) → r.bytes ≡ [] → times x (addresses (r ∷ [])) ≡ 0
times-last x r e = ap (λ (bs : List ℕ). times x (from r.address bs ++ [])) e

abbrev Owed : List Record → List ℕ → Type 0
Owed rs g = (x : ℕ) → times x (addresses rs) ≡ free g x

taken-owed : (line : ℕ) (rs : List Record) (g : List ℕ) → Every Sound rs → (walk line rs g).number ≡ 0 → Closed rs × Owed rs g
taken-owed line [] g s h = absurd (never line g h)
taken-owed line (r ∷ []) g s h =
    first line r [] g h
    (λ n l m e. ((n, l), λ x. omega (arith, times-last x r (s.0.1 l), none_free g m x)))
    (λ n l g' gave e. absurd (never (line + 1) g' (sym (ap (λ (w : Walked). w.number) e) ∙ h)))
taken-owed line (r ∷ q ∷ rs) g s h =
    first line r (q ∷ rs) g h
    (λ n l m e. absurd (omega (arith, ap (λ (t : Bool). cond {A = ℕ} t 1 0) e)))
    (λ n l g' gave e.
    let more = taken-owed (line + 1) (q ∷ rs) g' s.1 (sym (ap (λ (w : Walked). w.number) e) ∙ h) in
    ((n, l, more.0), λ x. omega (arith, times-first x r (q ∷ rs), more.1 x, give-counts r.bytes r.address g g' s.0.0 gave x)))

owed-taken : (line : ℕ) (rs : List Record) (g : List ℕ) → Every Sound rs → Closed rs → Owed rs g → (walk line rs g).number ≡ 0
owed-taken line [] g s c o = absurd c
owed-taken line (r ∷ []) g s c o =
    let m = none-missing g (λ x. omega (arith, o x, times-last x r (s.0.1 c.1))) in
    ap (λ (w : Walked). w.number) (walk-closed line r g c.0 c.1 m)
owed-taken line (r ∷ q ∷ rs) g s c o =
    let p = give r.address r.bytes g in
    let z = give-fits r.bytes r.address g s.0.0 (λ x. omega (arith, o x, times-first x r (q ∷ rs))) in
    let gave : p ≡ given 0 p.bytes = ap (λ (k : ℕ). given k p.bytes) z in
    ap (λ (w : Walked). w.number) (walk-on line r (q ∷ rs) g c.0 c.1 p.bytes gave)
    ∙ owed-taken (line + 1) (q ∷ rs) p.bytes s.1 c.2
    (λ x. omega (arith, o x, times-first x r (q ∷ rs), give-counts r.bytes r.address g p.bytes s.0.0 gave x))

bare-if : (t d : ℕ) (e : Bool) → eqb d 0 ≡ e → not (eqb t 1 && not e) ≡ true → t ≡ 1 → d ≡ 0
bare-if t d true q h k = eqb-true d 0 q
bare-if t d false q h k =
    absurd (omega (arith, ap (λ (b : Bool). cond {A = ℕ} b 1 0) h, ap (λ (b : Bool). cond {A = ℕ} (not (b && true)) 1 0) (eq-eqb t 1 k)))

-- an end record has no data, since one with data is a bad length
module _ (l : List ℕ) where
  end-length-if : (b : Bool) → eqb (record_head l).number 0 ≡ b → (record_head l).kind ≡ 1 → (record_head l).length ≡ 0
  end-length-if true e k =
      let n = eqb-true _ _ e in
      let kind = ap (λ (r : RecordHead). r.kind) (head-good l n) in
      length-good l n
      ∙ bare-if (record_type l) (data_length l) (eqb (data_length l) 0) refl (formed-has l (good l n).0).bare (sym kind ∙ k)
  end-length-if false e k = refused-length l (eqb-false _ _ e)

  end-bare : (intel_hex l).last ≡ true → (intel_hex l).bytes ≡ []
  unfolding intel_hex data_part bytes_of
  end-bare e =
      ap (λ (n : ℕ). bytes_of (take (2 * n) (drop 9 l))) (end-length-if (eqb (record_head l).number 0) refl (eqb-true _ _ e))

  sound : Sound (intel_hex l)
  unfolding intel_hex
  sound = (bytes_below (data_part l), end-bare)

pub all_sound : (ls : List (List ℕ)) → Every Sound (map intel_hex ls)
all_sound [] = tt
all_sound (l ∷ ls) = (sound l, all_sound ls)

pub taken-exactly : TakenExactly
taken-exactly width size text image long =
    let rs = records text in
    let w = walk 0 rs (blank width size) in
    let s = all_sound (lines text) in (
      (λ h.
          let o = taken-owed 0 rs (blank width size) s (walk-taken intel_hex width size text image h) in
          (o.0, λ x. o.1 x ∙ blank-free (width * size) x)),
      λ c.
          let z = owed-taken 0 rs (blank width size) s c.0 (λ x. c.1 x ∙ sym (blank-free (width * size) x)) in
          ap (λ (x : Loaded). x.number) (load-taken intel_hex width size text image long (at w.line w.number) w.bytes refl z) ∙ z,
    )
