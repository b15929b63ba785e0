-- A text of the writer's form was written, and of which bytes. Assumes nothing.
use mathlib.Core.Path.{◌≡◌, refl, sym, ap, ap₂, ◌∙◌}
use mathlib.Core.Bool.{Bool, true, false, cond, and-eq-true_iff}
use mathlib.Core.List.{List, [], ◌∷◌, ◌++◌}
use Prim.Native.Nat.{ℕ, zero, suc, ◌+◌, ◌-◌, ◌*◌, ◌/◌, ◌%◌, ◌<◌, ◌≤◌}
use native.Mathlib.Omega.{arith}
use lib.ListN.{length, get_or, take, drop, length-append, length-take, length-drop, take-append-drop, drop_of_length-le, get_or-append}
use lib.Seq.{drop-cons, take_at, drop_at}
use lib.Dec.{ltb}
use borrow.Author.Tests.{lt-ltb, le-ltb, ltb-true, ltb-false, eqb-true}
use Rattle.numbers.specs.Every.{Every}
use Rattle.image.specs.Hexadecimal.{digit, byte, byte_at, bytes_of, all_digits, total}
use Rattle.image.specs.IntelHex.{RecordHead, ending, characters, record_head}
use Rattle.image.proofs.Members.{taken, dropped, both}
use Rattle.image.proofs.CellBytes.{Byte, Bytes, member_below, bytes_below}
use Rattle.image.proofs.Characters.{bytes-step}
use Rattle.image.proofs.Records.{good, head-good}
use Rattle.image.proofs.Proper.{fine}
use Rattle.preset.specs.Written.{capital, spelled, content, record_line, end_line, record_lines}
use Rattle.preset.specs.Form.{DataLine, FormLines}
use Rattle.preset.proofs.Spelled.{total-append}
use Rattle.preset.proofs.Lines.{check}

-- a digit that is no small letter is in capitals
capital-if : (c : ℕ) (a b d e : Bool) → ltb c 48 ≡ a → ltb c 58 ≡ b → ltb c 65 ≡ d → ltb c 71 ≡ e → c < 97
    → cond a 16 (cond b (c - 48) (cond d 16 (cond e (c - 55) 16))) < 16 → capital (cond a 16 (cond b (c - 48) (cond d 16 (cond e (c - 55) 16)))) ≡ c
unfolding capital
capital-if c true b d e p q r s h k = absurd (omega arith)
capital-if c false true d e p q r s h k =
    let m = ltb-false c 48 p in
    let n = ltb-true c 58 q in
    rw (lt-ltb (c - 48) 10 (omega arith)) (omega arith)
capital-if c false false true e p q r s h k = absurd (omega arith)
capital-if c false false false true p q r s h k =
    let m = ltb-false c 65 r in
    let n = ltb-true c 71 s in
    rw (le-ltb (c - 55) 10 (omega arith)) (omega arith)
capital-if c false false false false p q r s h k = absurd (omega arith)

digit-large : (c : ℕ) → c < 97 → digit c ≡ cond (ltb c 48) 16 (cond (ltb c 58) (c - 48) (cond (ltb c 65) 16 (cond (ltb c 71) (c - 55) 16)))
unfolding digit
digit-large c h = rw (lt-ltb c 97 h)

capital-back : (c : ℕ) → digit c < 16 → c < 97 → capital (digit c) ≡ c
capital-back c k h =
    ap capital (digit-large c h)
    ∙ capital-if c (ltb c 48) (ltb c 58) (ltb c 65) (ltb c 71) refl refl refl refl h (omega (arith, k, digit-large c h))

-- characters without small letters are spelled by their bytes
spelled_back : (n : ℕ) (cs : List ℕ) → length cs ≡ 2 * n → all_digits cs ≡ true → Every (λ c. c < 97) cs → spelled (bytes_of cs) ≡ cs
unfolding spelled bytes_of all_digits byte
spelled_back zero [] e d h = refl
spelled_back zero (x ∷ cs) e d h = absurd (omega arith)
spelled_back (suc n) [] e d h = absurd (omega arith)
spelled_back (suc n) (x ∷ []) e d h = absurd (omega arith)
spelled_back (suc n) (x ∷ y ∷ cs) e d h =
    let p = (and-eq-true_iff (ltb (digit x) 16) _).0 d in
    let q = (and-eq-true_iff (ltb (digit y) 16) _).0 p.1 in
    let u = ltb-true (digit x) 16 p.0 in
    let v = ltb-true (digit y) 16 q.0 in
    let high : (digit x * 16 + digit y) % 256 / 16 ≡ digit x = omega arith in
    let low : (digit x * 16 + digit y) % 256 % 16 ≡ digit y = omega arith in
    rw (high, low, capital-back x u h.0, capital-back y v h.1.0) (ap (λ (l : List ℕ). x ∷ y ∷ l) (spelled_back n cs (omega arith) q.1 h.1.1))

length-spelt : (n : ℕ) (cs : List ℕ) → length cs ≡ 2 * n → length (bytes_of cs) ≡ n
unfolding bytes_of
length-spelt zero [] e = refl
length-spelt zero (x ∷ cs) e = absurd (omega arith)
length-spelt (suc n) [] e = absurd (omega arith)
length-spelt (suc n) (x ∷ []) e = absurd (omega arith)
length-spelt (suc n) (x ∷ y ∷ cs) e = ap suc (length-spelt n cs (omega arith))

-- a line between its colon and its line feed
between : (l : List ℕ) → 12 ≤ length l → get_or l 0 0 ≡ 58 → get_or l (length l - 1) 0 ≡ 10 → ending l + 1 ≡ length l → l ≡ 58 ∷ (characters l ++ 10 ∷ [])
between [] long colon feed alone = absurd (omega arith)
between (c ∷ l) long colon feed alone =
    let e = ending (c ∷ l) - 1 in
    let n : length (c ∷ l) - 1 ≡ suc e = omega arith in
    let last : get_or l e 0 ≡ 10 = sym (ap (λ (i : ℕ). get_or (c ∷ l) i 0) n) ∙ feed in
    let tail : drop e l ≡ 10 ∷ [] = drop-cons l e 0 (omega arith) ∙ rw (last, drop_of_length-le l {i = suc e} (omega arith)) in
    ap₂ (λ (x : ℕ) (t : List ℕ). x ∷ t) colon (sym (take-append-drop e l) ∙ ap (λ (t : List ℕ). take e l ++ t) tail)

byte-in : (cs e : List ℕ) (j : ℕ) → j + 1 < length cs → byte_at (58 ∷ (cs ++ e)) (suc j) ≡ byte_at cs j
unfolding byte_at
byte-in cs e j h =
    let k : suc j + 1 ≡ suc (j + 1) = omega arith in
    rw (k, get_or-append cs e 0 j (omega arith), get_or-append cs e 0 (j + 1) h)

-- the last of so many and one
last_of : (n : ℕ) (bs : List ℕ) → length bs ≡ n + 1 → bs ≡ take n bs ++ get_or bs n 0 ∷ []
last_of n bs e =
    sym (take-append-drop n bs)
    ∙ ap (λ (t : List ℕ). take n bs ++ t) (drop-cons bs n 0 (omega arith) ∙ ap (λ (t : List ℕ). get_or bs n 0 ∷ t) (drop_of_length-le bs {i = suc n} (omega arith)))

byte-at-below : (l : List ℕ) (i : ℕ) → byte_at l i < 256
unfolding byte_at byte
byte-at-below l i = omega arith

total-one : (b : ℕ) → total (b ∷ []) ≡ b
unfolding total
total-one b = omega arith

module _ (address : ℕ) (line : List ℕ) (f : DataLine address line) where
  is-good : (record_head line).number ≡ 0
  is-good = ap (λ (r : RecordHead). r.number) f.says

  same_head : ◌≡◌ {A = RecordHead} (record { number = 0; kind = byte_at line 7; address = byte_at line 3 * 256 + byte_at line 5; length = byte_at line 1 })
      (record { number = 0; kind = 0; address = address; length = 16 })
  same_head = sym (head-good line is-good) ∙ f.says

  kind-is : byte_at line 7 ≡ 0
  kind-is = ap (λ (r : RecordHead). r.kind) same_head

  address_is : byte_at line 3 * 256 + byte_at line 5 ≡ address
  address_is = ap (λ (r : RecordHead). r.address) same_head

  length-is : byte_at line 1 ≡ 16
  length-is = ap (λ (r : RecordHead). r.length) same_head

  abbrev cs : List ℕ
  cs = characters line

  whole : line ≡ 58 ∷ (cs ++ 10 ∷ [])
  whole = between line (fine line is-good).long (fine line is-good).colon (fine line is-good).line-feed f.feed_alone

  long : length cs ≡ 2 * 21
  long =
      omega (arith, ap (λ (l : List ℕ). length l) whole, length-append cs (10 ∷ []), f.feed_alone, (fine line is-good).fits, length-is)

  inside : (j : ℕ) → j + 1 < length cs → byte_at cs j ≡ byte_at line (suc j)
  inside j h = sym (byte-in cs (10 ∷ []) j h) ∙ ap (λ (l : List ℕ). byte_at l (suc j)) (sym whole)

  -- the data, and what stands behind it
  abbrev rest : List ℕ
  rest = bytes_of (drop 8 cs)

  abbrev made : List ℕ
  made = take 16 rest

  abbrev end : ℕ
  end = get_or rest 16 0

  rest-long : length rest ≡ 17
  rest-long = length-spelt 17 (drop 8 cs) (omega (arith, length-drop 8 cs, long))

  made-long : length made ≡ 16
  made-long = omega (arith, length-take 16 rest, rest-long)

  made_bytes : Bytes made
  made_bytes = taken Byte 16 rest (bytes_below (drop 8 cs))

  bytes-are : bytes_of cs ≡ content 0 address made ++ end ∷ []
  bytes-are =
      let four : bytes_of cs ≡ byte_at cs 0 ∷ byte_at cs 2 ∷ byte_at cs 4 ∷ byte_at cs 6 ∷ rest =
      bytes-step cs 0 (omega (arith, long))
      ∙ ap (λ (l : List ℕ). byte_at cs 0 ∷ l)
      (bytes-step cs 2 (omega (arith, long))
      ∙ ap (λ (l : List ℕ). byte_at cs 2 ∷ l)
      (bytes-step cs 4 (omega (arith, long)) ∙ ap (λ (l : List ℕ). byte_at cs 4 ∷ l) (bytes-step cs 6 (omega (arith, long))))) in
      let n : byte_at cs 0 ≡ length made = inside 0 (omega (arith, long)) ∙ length-is ∙ sym made-long in
      let small : byte_at line 5 < 256 = byte-at-below line 5 in
      let h : byte_at cs 2 ≡ address / 256 = inside 2 (omega (arith, long)) ∙ omega (arith, address_is) in
      let l : byte_at cs 4 ≡ address % 256 = inside 4 (omega (arith, long)) ∙ omega (arith, address_is) in
      let k : byte_at cs 6 ≡ 0 = inside 6 (omega (arith, long)) ∙ kind-is in
      four ∙ rw (n, h, l, k) (ap (λ (t : List ℕ). length made ∷ address / 256 ∷ address % 256 ∷ 0 ∷ t) (last_of 16 rest rest-long))

  -- all bytes add up to 0 modulo 256, so the last is the check byte
  end_is : end ≡ check 0 address made
  end_is =
      let sum : total (bytes_of cs) % 256 ≡ 0 = eqb-true _ 0 (good line is-good).1 in
      omega (arith, sum, ap total bytes-are, total-append (content 0 address made) (end ∷ []), total-one end, member_below rest 16 (bytes_below (drop 8 cs)))

  line-is : line ≡ record_line 0 address made
  unfolding record_line
  line-is =
      let letters = taken (λ c. c < 97) (ending line - 1) (drop 1 line) (dropped (λ c. c < 97) 1 line f.in_capitals) in
      whole ∙ ap (λ (t : List ℕ). 58 ∷ (t ++ 10 ∷ []))
      (sym (spelled_back 21 cs long (fine line is-good).digits letters) ∙ ap spelled (bytes-are ∙ ap (λ (k : ℕ). content 0 address made ++ k ∷ []) end_is))

-- the bytes of which such lines were written
pub record Made (records address : ℕ) (ls : List (List ℕ)) : Type 0 where
  pub bytes : List ℕ
  pub are : Bytes bytes
  pub number : length bytes ≡ 16 * records
  pub lines_are : ls ≡ record_lines records address bytes

pub form-made : (records address : ℕ) (ls : List (List ℕ)) → FormLines records address ls → Made records address ls
unfolding record_lines end_line
form-made zero address ls f = record { bytes = []; are = tt; number = refl; lines_are = f }
form-made (suc records) address [] f = absurd f
form-made (suc records) address (line ∷ ls) f =
    let d = made address line f.0 in
    let more = form-made records (address + 16) ls f.1 in
    let n = made-long address line f.0 in
    record {
      bytes = d ++ more.bytes;
      are = both Byte d more.bytes (made_bytes address line f.0) more.are;
      number = omega (arith, length-append d more.bytes, n, more.number);
      lines_are =
          ap₂ (λ (x : List ℕ) (xs : List (List ℕ)). x ∷ xs)
          (line-is address line f.0 ∙ ap (record_line 0 address) (sym (take_at d more.bytes 16 n)))
          (more.lines_are ∙ ap (record_lines records (address + 16)) (sym (drop_at d more.bytes 16 n)));
    }
