-- A text record by record: what is left to write, and how long it is. Assumes nothing.
use mathlib.Core.Path.{◌≡◌, refl, sym, ap, ◌∙◌}
use mathlib.Core.List.{List, [], ◌∷◌, ◌++◌, append-nil}
use Prim.Native.Nat.{ℕ, zero, suc, ◌+◌, ◌-◌, ◌*◌, ◌/◌, ◌%◌, ◌<◌, ◌≤◌, min}
use native.Mathlib.Omega.{arith}
use lib.ListN.{length, take, drop, length-append, length-take, length-drop}
use lib.Seq.{sets, take-nil, drop-drop}
use native.Mathlib.Nat.{zero-min, min-zero, suc-min-suc}
use Rattle.std.proofs.lemmas.List.{take-append-drop}
use Rattle.image.specs.Hexadecimal.{total}
use Rattle.image.specs.Quoted.{quoted}
use Rattle.image.specs.Lines.{joined}
use Rattle.preset.specs.Written.{capital, spelled, record_line, end_line, record_lines, records_for, text_of}
use Rattle.preset.proofs.Stores.{sets_then}
use Rattle.preset.proofs.Lines.{length-line}

-- the end record is a record too
pub end-record : record_line 1 0 [] ≡ end_line
unfolding record_line end_line quoted spelled capital total
end-record = refl

-- the text of the bytes that are left, from an address on
abbrev pub left : List ℕ → ℕ → List ℕ
left rest address = joined (record_lines (records_for (length rest)) address rest)

pub left-all : (bs : List ℕ) → text_of bs ≡ left bs 0
unfolding text_of
left-all bs = refl

-- a part of so many bytes, or of as many as there are, is cut off
cut : (n : ℕ) (part more : List ℕ) → length part ≡ min n (length part + length more) → (take n (part ++ more) ≡ part) × (drop n (part ++ more) ≡ more)
cut zero [] more e = (refl, refl)
cut zero (x ∷ part) more e = absurd (omega arith)
cut (suc n) [] [] e = (refl, refl)
cut (suc n) [] (y ∷ more) e = absurd (omega arith)
cut (suc n) (x ∷ part) more e =
    let p = cut n part more (omega arith) in
    (ap (λ (t : List ℕ). x ∷ t) p.0, p.1)

-- a list's first n members, or as many as there are
taken : (n : ℕ) (l : List ℕ) → take (min (length l) n) l ≡ take n l
taken n [] = rw (zero-min n) (sym (take-nil n))
taken zero (x ∷ l) = rw min-zero
taken (suc n) (x ∷ l) = rw suc-min-suc (ap (λ (t : List ℕ). x ∷ t) (taken n l))

module _ (rest part more : List ℕ) (address : ℕ) (e : rest ≡ part ++ more) (h : length part ≡ min 16 (length rest)) (some : 0 < length rest) where
  lengths : length rest ≡ length part + length more
  lengths = ap (λ (l : List ℕ). length l) e ∙ length-append part more

  left-next : left rest address ≡ record_line 0 address part ++ left more (address + 16)
  unfolding record_lines joined
  left-next =
      let n : records_for (length rest) ≡ suc (records_for (length more)) = omega (arith, lengths) in
      let c = cut 16 part more (omega (arith, lengths)) in
      let t : take 16 rest ≡ part = ap (take 16) e ∙ c.0 in
      let d : drop 16 rest ≡ more = ap (drop 16) e ∙ c.1 in
      rw (n, t, d)

  pub left-length : length (left rest address) ≡ 12 + 2 * length part + length (left more (address + 16))
  left-length =
      omega (arith, ap (λ (l : List ℕ). length l) left-next, length-append (record_line 0 address part) (left more (address + 16)), length-line 0 address part)

  pub fewer : length more ≡ length rest - 16
  fewer = omega (arith, lengths)

  -- with the next record stored, what is left is stored behind it
  pub left-stored : (text stored : List ℕ) (at behind : ℕ) → stored ≡ sets text at (record_line 0 address part) → behind ≡ at + 12 + 2 * length part
      → sets text at (left rest address) ≡ sets stored behind (left more (address + 16))
  left-stored text stored at behind p q =
      ap (sets text at) left-next
      ∙ sym (sets_then (record_line 0 address part) (left more (address + 16)) text at behind (omega (arith, length-line 0 address part)))
      ∙ ap (λ (l : List ℕ). sets l behind (left more (address + 16))) (sym p)

-- the bytes from a place on: those of the next record, and those sixteen places on
module _ (bs : List ℕ) (from end : ℕ) (h : from < length bs) (e : end ≡ min (length bs) (from + 16)) where
  abbrev pub here : List ℕ
  here = take (end - from) (drop from bs)

  here-and-more : drop from bs ≡ here ++ drop (from + 16) bs
  here-and-more =
      let rest = drop from bs in
      let size : end - from ≡ min (length rest) 16 = omega (arith, e, length-drop from bs) in
      let part : here ≡ take 16 rest = ap (λ (k : ℕ). take k rest) size ∙ taken 16 rest in
      sym (take-append-drop 16 rest) ∙ ap (λ (t : List ℕ). t ++ drop 16 rest) (sym part) ∙ ap (λ (t : List ℕ). here ++ t) (drop-drop 16 from bs)

  pub next-size : length here ≡ min 16 (length (drop from bs))
  next-size = omega (arith, e, length-take (end - from) (drop from bs), length-drop from bs)

  some-here : 0 < length (drop from bs)
  some-here = omega (arith, length-drop from bs)

  pub next-length : length (left (drop from bs) from) ≡ 12 + 2 * length here + length (left (drop (from + 16) bs) (from + 16))
  next-length = left-length (drop from bs) here (drop (from + 16) bs) from here-and-more next-size some-here

  pub next-stored : (text stored : List ℕ) (at behind : ℕ) → stored ≡ sets text at (record_line 0 from here) → behind ≡ at + 12 + 2 * length here
      → sets text at (left (drop from bs) from) ≡ sets stored behind (left (drop (from + 16) bs) (from + 16))
  next-stored = left-stored (drop from bs) here (drop (from + 16) bs) from here-and-more next-size some-here

-- the loop over records, of which there are as many as begun sixteens of bytes: in it bytes are left, behind it none
module _ (bs : List ℕ) (turn records : ℕ) (e : records ≡ length bs / 16 + min 1 (length bs % 16)) where
  pub some-left : turn < records → 16 * turn < length bs
  some-left h = omega arith

  pub none-left : records ≤ turn → length (drop (16 * turn) bs) ≡ 0
  none-left h = omega (arith, length-drop (16 * turn) bs)

-- of no bytes the end record is left
module _ (rest : List ℕ) (address : ℕ) (h : length rest ≡ 0) where
  pub left-done : left rest address ≡ record_line 1 0 []
  unfolding record_lines joined
  left-done =
      let n : records_for (length rest) ≡ 0 = omega arith in
      rw (n, end-record) (append-nil end_line)

  pub end-length : length (left rest address) ≡ 12
  end-length = omega (arith, ap (λ (l : List ℕ). length l) left-done, length-line 1 0 [])

pub length-lines : (records address : ℕ) (bs : List ℕ) → length bs ≤ 16 * records → length (joined (record_lines records address bs)) ≡ 2 * length bs + 12 * records + 12
unfolding record_lines joined
length-lines zero address bs h =
    omega (arith, ap (λ (l : List ℕ). length l) (append-nil end_line ∙ sym end-record), length-line 1 0 [])
length-lines (suc records) address bs h =
    let here = record_line 0 address (take 16 bs) in
    let rest = record_lines records (address + 16) (drop 16 bs) in
    omega (
      arith,
      length-append here (joined rest),
      length-line 0 address (take 16 bs),
      length-take 16 bs,
      length-drop 16 bs,
      length-lines records (address + 16) (drop 16 bs) (omega (arith, length-drop 16 bs)),
    )

pub length-text : (bs : List ℕ) → length (text_of bs) ≡ 2 * length bs + 12 * records_for (length bs) + 12
unfolding text_of
length-text bs = length-lines (records_for (length bs)) 0 bs (omega arith)
