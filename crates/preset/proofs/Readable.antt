-- A line that is written is read as the record that it was made of. Assumes nothing.
use mathlib.Core.Path.{◌≡◌, refl, sym, ap, ◌∙◌}
use mathlib.Core.Bool.{Bool, true, false, cond}
use mathlib.Core.List.{List, [], ◌∷◌, ◌++◌}
use Prim.Native.Nat.{ℕ, ◌+◌, ◌-◌, ◌*◌, ◌/◌, ◌%◌, ◌<◌, ◌≤◌}
use native.Mathlib.Omega.{arith}
use lib.ListN.{length, get_or, length-append}
use lib.Seq.{take_at, get_or_at}
use lib.Dec.{ltb}
use borrow.Author.Tests.{lt-ltb, le-ltb, ltb-true, ltb-false, eq-eqb}
use Rattle.numbers.specs.Every.{Every}
use Rattle.image.specs.Hexadecimal.{digit, byte, byte_at, bytes_of, all_digits, total}
use Rattle.image.specs.IntelHex.{ending, characters, formed, checked, record_head, data_part, intel_hex}
use Rattle.image.proofs.Members.{both}
use Rattle.image.proofs.CellBytes.{Byte, Bytes}
use Rattle.image.proofs.Proper.{Plain}
use Rattle.image.proofs.Endings.{ending-place}
use Rattle.image.proofs.Records.{formed-by, head-said, said-0}
use Rattle.preset.specs.Written.{capital, spelled, content, record_line}
use Rattle.preset.proofs.Spelled.{length-spelled, total-append}
use Rattle.preset.proofs.Lines.{check, parts, length-line}

-- a digit in capitals is read as itself, and is neither an ending nor a small letter
record Digit (d c : ℕ) : Type 0 where
  reads : digit c ≡ d
  plain : 48 ≤ c
  large : c < 97

capital-if : (d : ℕ) (t : Bool) → ltb d 10 ≡ t → d < 16 → Digit d (cond t (48 + d) (55 + d))
unfolding digit
capital-if d true e h =
    let l = ltb-true d 10 e in
    record {
      reads = rw (le-ltb (48 + d) 48 (omega arith), lt-ltb (48 + d) 58 (omega arith)) (omega arith);
      plain = omega arith;
      large = omega arith;
    }
capital-if d false e h =
    let l = ltb-false d 10 e in
    record {
      reads =
          rw (le-ltb (55 + d) 48 (omega arith), le-ltb (55 + d) 58 (omega arith), le-ltb (55 + d) 65 (omega arith), lt-ltb (55 + d) 71 (omega arith)) (omega arith);
      plain = omega arith;
      large = omega arith;
    }

capital-digit : (d : ℕ) → d < 16 → Digit d (capital d)
unfolding capital
capital-digit d = capital-if d (ltb d 10) refl

-- a byte's digits
module _ (b : ℕ) (h : b < 256) where
  high : Digit (b / 16) (capital (b / 16))
  high = capital-digit (b / 16) (omega arith)

  low : Digit (b % 16) (capital (b % 16))
  low = capital-digit (b % 16) (omega arith)

  pub byte-back : byte (capital (b / 16)) (capital (b % 16)) ≡ b
  unfolding byte
  byte-back = rw (high.reads, low.reads) (omega arith)

pub bytes_back : (bs : List ℕ) → Bytes bs → bytes_of (spelled bs) ≡ bs
unfolding bytes_of spelled
bytes_back [] h = refl
bytes_back (b ∷ bs) h = λ i. byte-back b h.0 i ∷ bytes_back bs h.1 i

digits-back : (bs : List ℕ) → Bytes bs → all_digits (spelled bs) ≡ true
unfolding all_digits spelled
digits-back [] h = refl
digits-back (b ∷ bs) h =
    rw (
      (high b h.0).reads,
      (low b h.0).reads,
      lt-ltb (b / 16) 16 (omega (arith, h.0)),
      lt-ltb (b % 16) 16 (omega arith),
    ) (digits-back bs h.1)

plain_back : (bs : List ℕ) → Bytes bs → Plain (spelled bs)
unfolding spelled
plain_back [] h = tt
plain_back (b ∷ bs) h = ((high b h.0).plain, ((low b h.0).plain, plain_back bs h.1))

pub large-back : (bs : List ℕ) → Bytes bs → Every (λ c. c < 97) (spelled bs)
unfolding spelled
large-back [] h = tt
large-back (b ∷ bs) h = ((high b h.0).large, ((low b h.0).large, large-back bs h.1))

-- a data record's line, from the colon to the line feed
module _ (address : ℕ) (bs : List ℕ) (inside : address < 65536) (few : length bs < 256) (are : Bytes bs) where
  abbrev line : List ℕ
  line = record_line 0 address bs

  abbrev all : List ℕ
  all = content 0 address bs ++ check 0 address bs ∷ []

  abbrev digits : List ℕ
  digits = spelled all

  pub all-bytes : Bytes all
  all-bytes = (few, (omega arith, (omega arith, (omega arith, both Byte bs (check 0 address bs ∷ []) are (omega arith, tt)))))

  whole : line ≡ (58 ∷ digits) ++ 10 ∷ []
  unfolding record_line
  whole = refl

  length_digits : length digits ≡ 10 + 2 * length bs
  length_digits = omega (arith, length-spelled all, length-append bs (check 0 address bs ∷ []))

  ending-is : ending line ≡ 11 + 2 * length bs
  ending-is =
      ap ending whole ∙ ending-place true (58 ∷ digits) (omega arith, plain_back all all-bytes) (omega arith) ∙ omega (arith, length_digits)

  characters-are : characters line ≡ digits
  characters-are =
      let k : ending line - 1 ≡ length digits = omega (arith, ending-is, length_digits) in
      rw (k, whole) (take_at digits (10 ∷ []) (length digits) refl)

  -- the four bytes before the data
  length-is : byte_at line 1 ≡ length bs
  unfolding record_line spelled byte_at
  length-is = byte-back (length bs) few

  high_is : byte_at line 3 ≡ address / 256
  unfolding record_line spelled byte_at
  high_is = byte-back (address / 256) (omega arith)

  low-is : byte_at line 5 ≡ address % 256
  unfolding record_line spelled byte_at
  low-is = byte-back (address % 256) (omega arith)

  type-is : byte_at line 7 ≡ 0
  unfolding record_line spelled byte_at
  type-is = byte-back 0 (omega arith)

  formed-is : formed line ≡ true
  formed-is =
      formed-by line
      (record {
        long = omega (arith, length-line 0 address bs);
        colon = ap (λ (l : List ℕ). get_or l 0 0) whole;
        line-feed = rw whole (get_or_at (58 ∷ digits) 10 [] 0 (length ((58 ∷ digits) ++ 10 ∷ []) - 1) (omega (arith, length-append digits (10 ∷ []))));
        digits = rw characters-are (digits-back all all-bytes);
        fits = ending-is ∙ ap (λ (n : ℕ). 11 + 2 * n) (sym length-is);
        bare = rw type-is;
      })

  checked-is : checked line ≡ true
  unfolding total
  checked-is =
      rw (characters-are, bytes_back all all-bytes) (eq-eqb (total all % 256) 0 (omega (arith, total-append bs (check 0 address bs ∷ []))))

  pub head-is : record_head line ≡ record { number = 0; kind = 0; address = address; length = length bs }
  head-is =
      head-said line formed-is checked-is ∙ said-0 line (omega (arith, type-is))
      ∙ rw (length-is, high_is, low-is, type-is) (ap (λ (a : ℕ). record { number = 0; kind = 0; address = a; length = length bs }) (omega arith))

  data_is : data_part line ≡ spelled bs
  unfolding data_part spelled
  data_is = rw (head-is, parts 0 address bs) (take_at (spelled bs) (spelled (check 0 address bs ∷ []) ++ 10 ∷ []) (2 * length bs) (length-spelled bs))

  pub record_is : intel_hex line ≡ record { number = 0; last = false; address = address; bytes = bs }
  unfolding intel_hex
  record_is = rw (head-is, data_is, bytes_back bs are)

  pub feed-alone : ending line + 1 ≡ length line
  feed-alone = omega (arith, ending-is, length-line 0 address bs)

  pub large : Every (λ c. c < 97) line
  large = rw whole (omega arith, both (λ c. c < 97) digits (10 ∷ []) (large-back all all-bytes) (omega arith, tt))
