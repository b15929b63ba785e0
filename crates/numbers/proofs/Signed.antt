-- Laws of a register's signed value, of rounding down and of keeping 16 bits. `omega` reads a signed number z as up z - down z.
-- Assumes nothing.
use Rattle.std.proofs.Common.{◌≡◌, ℕ, ◌+◌, ◌*◌, ◌/◌, ◌%◌, ◌<◌, ◌≤◌, Bool, true, false, cond, eqb, ltb, ◌⊎◌, ℤ, pos, negsuc, ◌-ℤ◌, nat_abs, refl, inl, inr, lt_of_le_of_lt, mod-lt, suc-mul, div-add-mod', div-le_self, arith, w16, w32, SFits, to_z, of_z, ltb-false, ltb-true, eqb-true}
use Rattle.std.proofs.lemmas.Int.{ints, to_z-of_z}
use borrow.Author.Differences.{up, down}
use borrow.Author.Tests.{eqb-false}
use lib.Signed.{shr_z}
use Rattle.numbers.specs.Signed.{signed, leaves, floor_div, floor_mod, kept16}

-- ---- the signed value of a register

-- 32768 more than the signed value is the register with its top bit turned
pub ud-signed : (x : ℕ) → up (signed x) + 32768 ≡ (x + 32768) % 65536 + down (signed x)
unfolding signed
ud-signed x = go (ltb bits 32768) refl
  where
    bits : ℕ
    bits = x % 65536

    go : (t : Bool) → ltb bits 32768 ≡ t → up (cond t (pos bits) (pos bits -ℤ pos 65536)) + 32768 ≡ (x + 32768) % 65536 + down (cond t (pos bits) (pos bits -ℤ pos 65536))
    go true e = omega (arith, ltb-true bits 32768 e)
    go false e = omega (arith, ints, ltb-false bits 32768 e)

-- the signed value differs from the register by a multiple of 65536
pub ud-bits : (x : ℕ) → up (signed x) + (x + 32768) / 65536 * 65536 ≡ x + down (signed x)
ud-bits x = omega (arith, ud-signed x)

-- it is what the machine reads of a register's bits
pub read_signed : (x : ℕ) → x < 65536 → to_z w16 x ≡ signed x
unfolding signed
read_signed x h = grind (arith, ints)

pub abs-signed : (x : ℕ) → nat_abs (signed x) ≤ 32768
abs-signed x = omega (arith, ints, ud-signed x)

-- only -32768 reaches 32768
pub least-or-nearer : (x : ℕ) → (signed x ≡ negsuc 32767) ⊎ (nat_abs (signed x) ≤ 32767)
least-or-nearer x = go (eqb biased 0) refl
  where
    biased : ℕ
    biased = (x + 32768) % 65536

    go : (t : Bool) → eqb biased 0 ≡ t → (signed x ≡ negsuc 32767) ⊎ (nat_abs (signed x) ≤ 32767)
    go true e = inl (omega (arith, ints, ud-signed x, eqb-true biased 0 e))
    go false e = let n = eqb-false biased 0 e in inr (omega (arith, ints, ud-signed x))

-- ---- leaving -32768 to 32767

-- one that leaves them not is within them
pub within-range : (z : ℤ) → leaves z ≡ false → (up z < 32768 + down z) × (down z ≤ 32768 + up z)
unfolding leaves
within-range z e = grind (arith, ints)

-- ---- rounding down

pub floor_mod-lt : (z : ℤ) (m : ℕ) → 0 < m → floor_mod z m < m
unfolding floor_mod
floor_mod-lt (pos n) m h = mod-lt n h
floor_mod-lt (negsuc n) m h = omega (arith, mod-lt n h)

-- z is m times its quotient and what is left
pub floor-split : (z : ℤ) (m : ℕ) → 0 < m → up z + down (floor_div z m) * m ≡ up (floor_div z m) * m + floor_mod z m + down z
unfolding floor_div floor_mod
floor-split (pos n) m h = omega (arith, div-add-mod' n m)
floor-split (negsuc n) m h = omega (arith, div-add-mod' n m, mod-lt n h, suc-mul (n / m) m)

-- the machine's shift to the right rounds down
shr-floor : (z : ℤ) (m : ℕ) → shr_z z m ≡ floor_div z m
unfolding floor_div
shr-floor (pos n) m = refl
shr-floor (negsuc n) m = refl

-- a quotient rounded down is no farther from 0
floor-fits : (z : ℤ) (m : ℕ) → SFits w32 z → SFits w32 (floor_div z m)
unfolding floor_div
floor-fits (pos n) m h = record { sfits = lt_of_le_of_lt (div-le_self n m) h.sfits }
floor-fits (negsuc n) m h = record { sfits = lt_of_le_of_lt (div-le_self n m) h.sfits }

-- what the machine reads back after it shifted what it read back
pub shr-back : (z : ℤ) (m : ℕ) → SFits w32 z → to_z w32 (of_z w32 (shr_z (to_z w32 (of_z w32 z)) m)) ≡ floor_div z m
shr-back z m h = rw (to_z-of_z w32 z h, shr-floor z m) (to_z-of_z w32 (floor_div z m) (floor-fits z m h))

-- ---- keeping 16 bits

pub kept16-lt : (z : ℤ) → kept16 z < 65536
kept16-lt z = floor_mod-lt z 65536 (omega arith)

-- the low 16 of the bits that an i32 has
pub kept_bits : (z : ℤ) → SFits w32 z → of_z w32 z % 65536 ≡ kept16 z
unfolding floor_mod
kept_bits (pos n) h = refl
kept_bits (negsuc n) h = omega (arith, h.sfits)

-- all bits that an i16 has
kept_all : (z : ℤ) → up z < 32768 + down z → down z ≤ 32768 + up z → of_z w16 z ≡ kept16 z
unfolding floor_mod
kept_all (pos n) h k = omega arith
kept_all (negsuc n) h k = omega arith

-- a register's signed value shifted to the right, as bits again
pub halved : (x : ℕ) → x < 65536 → of_z w16 (shr_z (to_z w16 x) 2) ≡ kept16 (floor_div (signed x) 2)
halved x h =
    let e = floor-split (signed x) 2 (omega arith) in
    let l = floor_mod-lt (signed x) 2 (omega arith) in
    let s = ud-signed x in
    rw (read_signed x h, shr-floor (signed x) 2) (kept_all (floor_div (signed x) 2) (omega arith) (omega arith))

-- a number that 16 bits hold is kept by them
pub kept-signed : (z : ℤ) → up z < 32768 + down z → down z ≤ 32768 + up z → signed (kept16 z) ≡ z
kept-signed z h k = omega (arith, ints, ud-signed (kept16 z), floor-split z 65536 (omega arith), kept16-lt z)

-- numbers that differ by a multiple of 65536 are kept alike
pub kept-alike : (z : ℤ) (n m : ℕ) → up z + m * 65536 ≡ n + down z → kept16 z ≡ n % 65536
kept-alike z n m e = go (up z) (down z) n m (up (floor_div z 65536)) (down (floor_div z 65536)) (kept16 z) e (floor-split z 65536 (omega arith)) (kept16-lt z)
  where
    go : (u d n m v w r : ℕ) → u + m * 65536 ≡ n + d → u + w * 65536 ≡ v * 65536 + r + d → r < 65536 → r ≡ n % 65536
    go u d n m v w r e k h = omega arith

-- what `grind` may use of signed values
pub ruleset signs = (ints, ud-signed)
