-- What the records of a text give, with no image in between.
use Rattle.std.specs.Prelude.{◌≡◌, Bool, true, false, cond, ◌&&◌, List, [], ◌∷◌, ◌++◌, ℕ, zero, suc, ◌+◌, ◌-◌, length, slice_index, ◌==◌, nat_lt, nat_le}
use Rattle.image.specs.Record.{Record}

-- "an end record must come last": good records, of which the last and no other ends the text
abbrev pub Closed : List Record → Type 0
Closed [] = ⊥
Closed (r ∷ []) = (r.number ≡ 0) × (r.last ≡ true)
Closed (r ∷ s ∷ records) = (r.number ≡ 0) × (r.last ≡ false) × Closed (s ∷ records)

-- the addresses of bytes, from one on
abbrev pub from : ℕ → List ℕ → List ℕ
from address [] = []
from address (b ∷ bytes) = address ∷ from (address + 1) bytes

-- every address that records give, as often as they give it
abbrev pub addresses : List Record → List ℕ
addresses [] = []
addresses (r ∷ records) = from r.address r.bytes ++ addresses records

-- how often a number stands in a list
abbrev pub times : ℕ → List ℕ → ℕ
times a [] = 0
times a (x ∷ xs) = cond (x == a) 1 0 + times a xs

-- "Every address of the image must be given exactly once", and no other: of an image of so many bytes
abbrev pub ExactlyOnce : ℕ → List Record → Type 0
ExactlyOnce size records = (a : ℕ) → times a (addresses records) ≡ cond (nat_lt a size) 1 0

-- whether a record gives an address
abbrev pub gives : Record → ℕ → Bool
gives r a = nat_le r.address a && nat_lt a (r.address + length r.bytes)

-- the byte that is given for an address
abbrev pub byte_for : List Record → ℕ → ℕ
byte_for [] a = 0
byte_for (r ∷ records) a = cond (gives r a) (slice_index r.bytes (a - r.address)) (byte_for records a)

-- and for so many addresses, from one on
abbrev pub bytes_for : List Record → ℕ → ℕ → List ℕ
bytes_for records zero a = []
bytes_for records (suc count) a = byte_for records a ∷ bytes_for records count (a + 1)
