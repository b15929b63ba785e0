-- Bytes in digits, and what reads them back. Assumes nothing.
use mathlib.Core.Path.{◌≡◌, refl, ap}
use mathlib.Core.List.{List, [], ◌∷◌, ◌++◌}
use Prim.Native.Nat.{ℕ, ◌+◌, ◌*◌, ◌/◌, ◌%◌}
use native.Mathlib.Omega.{arith}
use lib.ListN.{length}
use Rattle.image.specs.Hexadecimal.{total}
use Rattle.preset.specs.Written.{capital, spelled}

pub length-spelled : (bs : List ℕ) → length (spelled bs) ≡ 2 * length bs
unfolding spelled
length-spelled [] = refl
length-spelled (b ∷ bs) = omega (arith, length-spelled bs)

pub spelled-append : (xs ys : List ℕ) → spelled (xs ++ ys) ≡ spelled xs ++ spelled ys
unfolding spelled
spelled-append [] ys = refl
spelled-append (b ∷ xs) ys = ap (λ (l : List ℕ). capital (b / 16) ∷ capital (b % 16) ∷ l) (spelled-append xs ys)

pub total-append : (xs ys : List ℕ) → total (xs ++ ys) ≡ total xs + total ys
unfolding total
total-append [] ys = omega arith
total-append (b ∷ xs) ys = omega (arith, total-append xs ys)
