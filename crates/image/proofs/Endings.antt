-- A text that is taken, with each line's ending changed: each line says the same. Assumes nothing.
use mathlib.Core.Path.{◌≡◌, refl, sym, ap, ap₂, ◌∙◌}
use mathlib.Core.Bool.{Bool, true, false}
use mathlib.Core.List.{List, [], ◌∷◌, ◌++◌, map}
use Prim.Native.Nat.{ℕ, zero, suc, ◌+◌, ◌-◌, ◌*◌, ◌<◌, ◌≤◌}
use native.Mathlib.Omega.{arith}
use lib.ListN.{length, get_or, take, drop, length-append, get_or-append}
use lib.Seq.{length-take-le, take-append-le, take-take, get_or-take, get_or-append-add}
use borrow.Author.Tests.{ne_eqb}
use Rattle.numbers.specs.Every.{Every}
use Rattle.image.specs.Hexadecimal.{byte_at, bytes_of}
use Rattle.image.specs.Lines.{lines, joined}
use Rattle.image.specs.IntelHex.{ending, characters, formed, record_head, data_place, data_part, intel_hex}
use Rattle.image.specs.Record.{Record}
use Rattle.image.specs.Image.{walk}
use Rattle.image.specs.Promises.{chosen_ending, with_ending, retold, EitherEnding}
use Rattle.image.specs.IntelHex.{RecordHead}
use Rattle.image.proofs.Records.{formed-by, good, ending-near, length-good, head-by}
use Rattle.image.proofs.Walking.{records, record-by}
use Rattle.image.proofs.Loads.{blank, load-by}
use Rattle.image.proofs.Proper.{Plain, Good, fine, body-plain, lines-joined, load-good}

plain_at : (b : List ℕ) (i : ℕ) → Plain b → i < length b → 48 ≤ get_or b i 0
plain_at [] i p h = absurd (omega arith)
plain_at (c ∷ b) zero p h = p.0
plain_at (c ∷ b) (suc i) p h = plain_at b i p.1 (omega arith)

-- before a line feed alone stands the last plain character, not a carriage return; of two, the carriage return stands where the plain ones end
pub ending-place : (short : Bool) (b : List ℕ) → Plain b → 0 < length b → ending (b ++ chosen_ending short) ≡ length b
unfolding ending
ending-place true b p h =
    let e : List ℕ = 10 ∷ [] in
    let n : length (b ++ e) ≡ length b + 1 = length-append b e in
    let k : length b + 1 - 2 ≡ length b - 1 = omega arith in
    let c : get_or (b ++ e) (length b - 1) 0 ≡ get_or b (length b - 1) 0 = get_or-append b e 0 (length b - 1) (omega arith) in
    rw (n, k, ne_eqb (get_or (b ++ e) (length b - 1) 0) 13 (λ z. omega (arith, plain_at b (length b - 1) p (omega arith)))) (omega arith)
ending-place false b p h =
    let e : List ℕ = 13 ∷ 10 ∷ [] in
    let n : length (b ++ e) ≡ length b + 2 = length-append b e in
    let k : length b + 2 - 2 ≡ length b + 0 = omega arith in
    rw (n, k, get_or-append-add b e 0 0) (omega arith)

ending-some : (short : Bool) → 0 < length (chosen_ending short)
ending-some true = omega arith
ending-some false = omega arith

ending-feed : (short : Bool) → get_or (chosen_ending short) (length (chosen_ending short) - 1) 0 ≡ 10
ending-feed true = refl
ending-feed false = refl

-- a part of what stands before `n`, whatever stands after it
part : (a b n : ℕ) (l e : List ℕ) → a + b ≤ n → n ≤ length l → take b (drop a (take n l ++ e)) ≡ take b (drop a l)
part zero b n l e h k = take-append-le b (take n l) e (omega (arith, length-take-le n l k)) ∙ take-take b n l (omega arith)
part (suc a) b zero l e h k = absurd (omega arith)
part (suc a) b (suc n) [] e h k = absurd (omega arith)
part (suc a) b (suc n) (c ∷ l) e h k = part a b n l e (omega arith) (omega arith)

module _ (short : Bool) (l : List ℕ) (h : Good l) where
  abbrev end : List ℕ
  end = chosen_ending short

  abbrev body : List ℕ
  body = take (ending l) l

  abbrev told : List ℕ
  told = with_ending short l

  within : ending l ≤ length l
  within = omega (arith, ending-near l)

  body-length : length body ≡ ending l
  body-length = length-take-le (ending l) l within

  same-ending : ending told ≡ ending l
  same-ending = ending-place short body (body-plain l h) (omega (arith, body-length, (fine l h).fits)) ∙ body-length

  same_at : (i : ℕ) → i < ending l → get_or told i 0 ≡ get_or l i 0
  same_at i k = get_or-append body end 0 i (omega (arith, body-length)) ∙ get_or-take (ending l) l i 0 k

  same_byte : (i : ℕ) → i ≤ 7 → byte_at told i ≡ byte_at l i
  unfolding byte_at
  same_byte i k = rw (same_at i (omega (arith, (fine l h).fits)), same_at (i + 1) (omega (arith, (fine l h).fits)))

  same-part : (a b : ℕ) → a + b ≤ ending l → take b (drop a told) ≡ take b (drop a l)
  same-part a b k = part a b (ending l) l end k within

  same-characters : characters told ≡ characters l
  same-characters = rw same-ending (same-part 1 (ending l - 1) (omega (arith, (fine l h).fits)))

  same-feed : get_or told (length told - 1) 0 ≡ 10
  same-feed =
      let k : length told - 1 ≡ length body + (length end - 1) = omega (arith, length-append body end, ending-some short) in
      rw k (get_or-append-add body end (length end - 1) 0 ∙ ending-feed short)

  same-formed : formed told ≡ true
  same-formed =
      let f = fine l h in
      formed-by told
      (record {
        long = omega (arith, length-append body end, body-length, ending-some short, f.fits);
        colon = same_at 0 (omega (arith, f.fits)) ∙ f.colon;
        line-feed = same-feed;
        digits = rw same-characters f.digits;
        fits = same-ending ∙ f.fits ∙ ap (λ (n : ℕ). 11 + 2 * n) (sym (same_byte 1 (omega arith)));
        bare = rw (same_byte 1 (omega arith), same_byte 7 (omega arith)) f.bare;
      })

  same_head : record_head told ≡ record_head l
  same_head = head-by l told (same-formed ∙ sym (good l h).0) (rw same-characters) same_byte

  same_good : Good told
  same_good = ap (λ (r : RecordHead). r.number) same_head ∙ h

  same-data : data_part told ≡ data_part l
  unfolding data_part
  same-data = rw same_head (same-part data_place (2 * (record_head l).length) (omega (arith, (fine l h).fits, length-good l h)))

  same-record : intel_hex told ≡ intel_hex l
  same-record = record-by l told same_head (ap bytes_of same-data)

module _ (short : ℕ → Bool) where
  good-retold : (number : ℕ) (ls : List (List ℕ)) → Every Good ls → Every Good (retold short number ls)
  good-retold number [] g = tt
  good-retold number (l ∷ ls) g = (same_good (short number) l g.0, good-retold (number + 1) ls g.1)

  records-retold : (number : ℕ) (ls : List (List ℕ)) → Every Good ls → map intel_hex (retold short number ls) ≡ map intel_hex ls
  records-retold number [] g = refl
  records-retold number (l ∷ ls) g =
      ap₂ (λ (r : Record) (rs : List Record). r ∷ rs) (same-record (short number) l g.0) (records-retold (number + 1) ls g.1)

pub either-ending : EitherEnding
either-ending width size text image short h =
    let g = load-good width size text image h in
    let told = retold short 0 (lines text) in
    let e : records (joined told) ≡ records text =
    ap (map intel_hex) (lines-joined told (good-retold short 0 (lines text) g)) ∙ records-retold short 0 (lines text) g in
    load-by intel_hex width size text (joined told) image (ap (λ (rs : List Record). walk 0 rs (blank width size)) e)
