-- Bytes spelled by hexadecimal characters, each character a number below 256.
use Rattle.std.specs.Prelude.{Bool, true, cond, ◌&&◌, List, [], ◌∷◌, ℕ, ◌+◌, ◌-◌, ◌*◌, ◌%◌, slice_index, nat_lt}

-- "Hex digits may be capitals or small letters when read": the value of a digit; 16 for any other character
unfoldable pub digit : ℕ → ℕ
digit c =
    cond (nat_lt c 48) 16 (cond (nat_lt c 58) (c - 48)
    (cond (nat_lt c 65) 16 (cond (nat_lt c 71) (c - 55)
    (cond (nat_lt c 97) 16 (cond (nat_lt c 103) (c - 87) 16)))))

unfoldable pub all_digits : List ℕ → Bool
all_digits [] = true
all_digits (c ∷ cs) = nat_lt (digit c) 16 && all_digits cs

-- the byte that two digits spell, the high one first
unfoldable pub byte : ℕ → ℕ → ℕ
byte high low = (digit high * 16 + digit low) % 256

-- the byte that the characters at a place and the next one spell
unfoldable pub byte_at : List ℕ → ℕ → ℕ
byte_at line place = byte (slice_index line place) (slice_index line (place + 1))

-- the bytes that characters spell, two a byte
unfoldable pub bytes_of : List ℕ → List ℕ
bytes_of [] = []
bytes_of (high ∷ []) = []
bytes_of (high ∷ low ∷ cs) = byte high low ∷ bytes_of cs

unfoldable pub total : List ℕ → ℕ
total [] = 0
total (b ∷ bs) = b + total bs
