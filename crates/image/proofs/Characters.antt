-- Characters, and the bytes that they spell. Assumes nothing.
use mathlib.Core.Path.{◌≡◌, refl, sym, ap, ◌∙◌}
use mathlib.Core.Bool.{Bool, ◌&&◌}
use mathlib.Core.List.{List, [], ◌∷◌}
use Prim.Native.Nat.{ℕ, suc, ◌+◌, ◌%◌, ◌<◌}
use native.Mathlib.Omega.{arith}
use native.Mathlib.Numerals.{add-one, add-two}
use lib.ListN.{length, get_or, drop}
use lib.Seq.{drop-cons}
use lib.Dec.{ltb}
use Rattle.std.specs.List.{list_all, fold}
use Rattle.image.specs.Hexadecimal.{digit, byte_at, bytes_of, all_digits, total}

pub bytes-step : (l : List ℕ) (j : ℕ) → j + 1 < length l → bytes_of (drop j l) ≡ byte_at l j ∷ bytes_of (drop (j + 2) l)
unfolding bytes_of byte_at
bytes-step l j h =
    let e : drop j l ≡ get_or l j 0 ∷ drop (suc j) l = drop-cons l j 0 (omega arith) in
    let f : drop (suc j) l ≡ get_or l (suc j) 0 ∷ drop (suc (suc j)) l = drop-cons l (suc j) 0 (omega arith) in
    rw (add-one j, add-two j, e, f)

pub digits-all : (cs : List ℕ) → all_digits cs ≡ list_all (λ c. ltb (digit c) 16) cs
unfolding all_digits
digits-all [] = refl
digits-all (c ∷ cs) = ap (λ (b : Bool). ltb (digit c) 16 && b) (digits-all cs)

-- a sum modulo 256 at each byte is one modulo 256
sum-from : (bs : List ℕ) (s : ℕ) → fold (λ s b. (s + b) % 256) (s % 256) bs ≡ (s + total bs) % 256
unfolding total
sum-from [] s = omega arith
sum-from (b ∷ bs) s =
    let e : (s % 256 + b) % 256 ≡ (s + b) % 256 = omega arith in
    rw e (sum-from bs (s + b) ∙ omega arith)

pub sum-all : (bs : List ℕ) → total bs % 256 ≡ fold (λ s b. (s + b) % 256) 0 bs
sum-all bs = sym (sum-from bs 0 ∙ omega arith)

-- what `formed` uses
pub ruleset digits = (digits-all)
