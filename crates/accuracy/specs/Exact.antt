-- The exact sum of demand 3, and how near an answer is to it. No chip, and no width but that of the start and the inputs.
use Rattle.std.specs.Prelude.{ℕ, ◌*◌, List, [], ◌∷◌, ℤ, pos, negsuc, ◌+ℤ◌, ◌*ℤ◌, length, ◌≤ℤ◌}
use Rattle.numbers.specs.Signed.{signed}
use Rattle.numbers.specs.Held.{held}
use Rattle.multiplier.specs.Product.{product}

-- K and L as an adding word finds them
pub record Inputs : Type 0 where
  pub k : ℕ
  pub l : ℕ

-- a whole number "in 32768ths"
unfoldable pub in32768ths : ℤ → ℤ
in32768ths z = z *ℤ pos 32768

-- "exact products", added up: a product of two registers is a number of 32768ths
unfoldable pub products : List Inputs → ℤ
products [] = pos 0
products (p ∷ ps) = product p.k p.l +ℤ products ps

-- "-32768 to 32767 whole"
abbrev pub least : ℤ
least = in32768ths (negsuc 32767)

abbrev pub most : ℤ
most = in32768ths (pos 32767)

-- "the exact start plus exact products, held within -32768 to 32767 whole"
unfoldable pub held_sum : ℕ → List Inputs → ℤ
held_sum start ps = held least most (in32768ths (signed start) +ℤ products ps)

-- "at most 32767 for each word added"
abbrev pub allowance : List Inputs → ℕ
allowance ps = 32767 * length ps

-- that sum "is never below that answer, and above it by at most" the allowance
pub record Accurate (start : ℕ) (ps : List Inputs) (answer : ℤ) : Type 0 where
  pub never-below : in32768ths answer ≤ℤ held_sum start ps
  pub near : held_sum start ps ≤ℤ (in32768ths answer +ℤ pos (allowance ps))
