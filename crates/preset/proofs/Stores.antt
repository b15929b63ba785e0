-- Characters and bytes stored one after the other: what is left to store, after each step. Assumes nothing.
use mathlib.Core.Path.{◌≡◌, ap, ◌∙◌}
use mathlib.Core.List.{List, [], ◌∷◌, ◌++◌, append-nil}
use Prim.Native.Nat.{ℕ, suc, ◌+◌, ◌*◌, ◌/◌, ◌%◌, ◌<◌, ◌≤◌}
use native.Mathlib.Omega.{arith}
use native.Mathlib.Numerals.{add-one, add-two}
use native.Mathlib.Nat.{add-zero}
use lib.ListN.{length, get_or, drop, set, drop_of_length-le}
use lib.Seq.{sets, sets-eq, drop-cons, drop-length}
use Rattle.image.specs.Image.{low_first, cell_bytes}
use Rattle.preset.specs.Written.{spelled}

-- stores after stores
pub sets_then : (u v l : List ℕ) (a k : ℕ) → k ≡ a + length u → sets (sets l a u) k v ≡ sets l a (u ++ v)
sets_then [] v l a k e = ap (λ (j : ℕ). sets l j v) (e ∙ add-zero a)
sets_then (x ∷ u) v l a k e = sets_then u v (set l a x) (suc a) k (omega arith)

-- stores over a whole list
pub sets-all : (vs l : List ℕ) → length vs ≡ length l → sets l 0 vs ≡ vs
sets-all vs l e =
    let n : 0 + length vs ≡ length l = omega arith in
    sets-eq vs l 0 (omega arith) ∙ rw (n, drop-length l) (append-nil vs)

-- the next byte in two digits
pub spelled-next : (bs l : List ℕ) (at i : ℕ) → i < length bs
    → sets l at (spelled (drop i bs)) ≡ sets (sets l at (spelled (get_or bs i 0 ∷ []))) (at + 2) (spelled (drop (i + 1) bs))
unfolding spelled
spelled-next bs l at i h = rw (add-two at, add-one i, drop-cons bs i 0 h)

pub spelled-done : (bs l : List ℕ) (k i : ℕ) → length bs ≤ i → sets l k (spelled (drop i bs)) ≡ l
unfolding spelled
spelled-done bs l k i h = rw (drop_of_length-le bs {i = i} h)

-- the next cell, its low byte first
pub cell-next : (xs l w : List ℕ) (i : ℕ) → i < length xs → w ≡ get_or xs i 0 % 256 ∷ get_or xs i 0 / 256 % 256 ∷ []
    → sets l (2 * i) (cell_bytes 2 (drop i xs)) ≡ sets (set (set l (2 * i) (get_or w 0 0)) (2 * i + 1) (get_or w 1 0)) (2 * (i + 1)) (cell_bytes 2 (drop (i + 1) xs))
unfolding cell_bytes low_first
cell-next xs l w i h e =
    let k : 2 * (i + 1) ≡ suc (suc (2 * i)) = omega arith in
    rw (k, add-one i, add-one (2 * i), drop-cons xs i 0 h, e)

pub cells-done : (xs l : List ℕ) (k i : ℕ) → length xs ≤ i → sets l k (cell_bytes 2 (drop i xs)) ≡ l
unfolding cell_bytes
cells-done xs l k i h = rw (drop_of_length-le xs {i = i} h)

-- what the loop of `put_bytes` uses
pub ruleset bytes = (spelled-next, spelled-done)
