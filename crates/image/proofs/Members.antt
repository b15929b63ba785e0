-- What holds of every member of a list holds of its parts, and of two lists put together. Assumes nothing.
use mathlib.Core.List.{List, [], ◌∷◌, ◌++◌}
use Prim.Native.Nat.{ℕ, zero, suc}
use lib.ListN.{take, drop}
use Rattle.numbers.specs.Every.{Every}

module _ (P : ℕ → Type 0) where
  pub taken : (n : ℕ) (l : List ℕ) → Every P l → Every P (take n l)
  taken zero l h = tt
  taken (suc n) [] h = tt
  taken (suc n) (x ∷ l) h = (h.0, taken n l h.1)

  pub dropped : (n : ℕ) (l : List ℕ) → Every P l → Every P (drop n l)
  dropped zero l h = h
  dropped (suc n) [] h = tt
  dropped (suc n) (x ∷ l) h = dropped n l h.1

  pub both : (l m : List ℕ) → Every P l → Every P m → Every P (l ++ m)
  both [] m h k = k
  both (x ∷ l) m h k = (h.0, both l m h.1 k)
