-- One line of a record: its parts, how long it is, and that its parts are stored one after the other. Assumes nothing.
use mathlib.Core.Path.{◌≡◌, sym, ap, ◌∙◌}
use mathlib.Core.List.{List, [], ◌∷◌, ◌++◌, append_assoc}
use Prim.Native.Nat.{ℕ, ◌+◌, ◌*◌, ◌/◌, ◌%◌, ◌<◌}
use native.Mathlib.Omega.{arith}
use lib.ListN.{length, get_or, set, length-append}
use lib.Seq.{sets}
use Rattle.std.specs.List.{fold}
use Rattle.image.specs.Hexadecimal.{total}
use Rattle.image.proofs.Characters.{sum-all}
use Rattle.preset.specs.Written.{spelled, check_byte, content, record_line}
use Rattle.preset.proofs.Spelled.{length-spelled, spelled-append}
use Rattle.preset.proofs.Stores.{sets_then}

-- what stands before a record's data
abbrev pub head : ℕ → ℕ → List ℕ → List ℕ
head kind address bs = length bs ∷ address / 256 ∷ address % 256 ∷ kind ∷ []

module _ (kind address : ℕ) (bs : List ℕ) where
  abbrev pub check : ℕ
  check = check_byte (content kind address bs)

  pub parts : record_line kind address bs ≡ 58 ∷ (spelled (head kind address bs) ++ (spelled bs ++ (spelled (check ∷ []) ++ 10 ∷ [])))
  unfolding record_line
  parts =
      ap (λ (l : List ℕ). 58 ∷ (l ++ 10 ∷ []))
      (spelled-append (head kind address bs) (bs ++ check ∷ []) ∙ ap (λ (l : List ℕ). spelled (head kind address bs) ++ l) (spelled-append bs (check ∷ [])))
      ∙ ap (λ (l : List ℕ). 58 ∷ l)
      (append_assoc (spelled (head kind address bs)) (spelled bs ++ spelled (check ∷ [])) (10 ∷ [])
      ∙ ap (λ (l : List ℕ). spelled (head kind address bs) ++ l) (append_assoc (spelled bs) (spelled (check ∷ [])) (10 ∷ [])))

  pub length-line : length (record_line kind address bs) ≡ 12 + 2 * length bs
  unfolding record_line
  length-line =
      let l = content kind address bs ++ check ∷ [] in
      omega (arith, length-append (spelled l) (10 ∷ []), length-spelled l, length-append bs (check ∷ []))

  -- colon, head, data, check byte and line feed, each behind the one before
  module _ (text begun headed filled checked ended : List ℕ) (at behind_colon behind_head behind_data behind_check c : ℕ) where
    pub line-stored : begun ≡ set text at 58 → behind_colon ≡ at + 1
        → headed ≡ sets begun behind_colon (spelled (head kind address bs)) → behind_head ≡ behind_colon + 8
        → filled ≡ sets headed behind_head (spelled bs) → behind_data ≡ behind_head + 2 * length bs
        → checked ≡ sets filled behind_data (spelled (c ∷ [])) → behind_check ≡ behind_data + 2
        → ended ≡ set checked behind_check 10 → c ≡ check → ended ≡ sets text at (record_line kind address bs)
    line-stored b p h q f r k s e is =
        let hs = spelled (head kind address bs) in
        let ds = spelled bs in
        let ks = spelled (check ∷ []) in
        let n : length hs ≡ 8 = length-spelled (head kind address bs) in
        let m : length ks ≡ 2 = length-spelled (check ∷ []) in
        e
        ∙ ap (λ (l : List ℕ). sets l behind_check (10 ∷ [])) (k ∙ ap (λ (x : ℕ). sets filled behind_data (spelled (x ∷ []))) is)
        ∙ sets_then ks (10 ∷ []) filled behind_data behind_check (omega arith)
        ∙ ap (λ (l : List ℕ). sets l behind_data (ks ++ 10 ∷ [])) f
        ∙ sets_then ds (ks ++ 10 ∷ []) headed behind_head behind_data (omega (arith, length-spelled bs))
        ∙ ap (λ (l : List ℕ). sets l behind_head (ds ++ (ks ++ 10 ∷ []))) h
        ∙ sets_then hs (ds ++ (ks ++ 10 ∷ [])) begun behind_colon behind_head (omega arith)
        ∙ ap (λ (l : List ℕ). sets l behind_colon (hs ++ (ds ++ (ks ++ 10 ∷ [])))) b
        ∙ sets_then (58 ∷ []) (hs ++ (ds ++ (ks ++ 10 ∷ []))) text at behind_colon (omega arith)
        ∙ ap (sets text at) (sym parts)

  -- the head by the bytes of the address
  module _ (w : List ℕ) (k : ℕ) (small : address < 65536) (e : w ≡ address / 256 % 256 ∷ address % 256 ∷ []) (same : k ≡ kind) where
    abbrev pub put : List ℕ
    put = length bs ∷ get_or w 0 0 ∷ get_or w 1 0 ∷ k ∷ []

    pub head-is : put ≡ head kind address bs
    head-is =
        let high : address / 256 % 256 ≡ address / 256 = omega arith in
        rw (e, high, same)

    -- the check byte is what the sum of the others leaves to 0
    pub check-is : (c : ℕ) → c < 256 → (c + fold (λ sum byte. (sum + byte) % 256) 0 (put ++ bs)) % 256 ≡ 0 → c ≡ check
    check-is c below z =
        omega (arith, z, sum-all (put ++ bs), ap (λ (h : List ℕ). total (h ++ bs)) head-is)
