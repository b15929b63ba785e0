-- Laws of reversed bits, over the width.
-- Assumes nothing.
use Rattle.std.proofs.Common.{◌≡◌, ℕ, zero, suc, ◌+◌, ◌-◌, ◌*◌, ◌/◌, ◌%◌, ◌^◌, ◌<◌, sym, refl, ap, ◌∙◌, subst, add-zero, add-suc, mod-eq_of_lt, mul_assoc, add-mul, add_comm, pow-suc, mul_right_comm, div-one, add-one, one-add, arith, pow-add, shr-shr}
use native.Mathlib.Nat.{mod-one}
use lib.Pow.{high, mod-pow-add}
use Rattle.std.proofs.lemmas.Nat.{mul-add-lt}
use Rattle.std.proofs.lemmas.Nat.Bits.{bit_at_cat_low}
use Rattle.std.specs.Int.{w16, reverse_bits, reverse_bits_onto}
use Rattle.numbers.specs.Reversal.{reversed, reversed16}

pub reversed-lt : (n x : ℕ) → reversed n x < 2 ^ n
unfolding reversed
reversed-lt zero x = omega arith
reversed-lt (suc n) x = rw (pow-suc 2 n) (mul-add-lt (x % 2) (2 ^ n) (reversed n (x / 2)) 2 (omega arith) (reversed-lt n (x / 2)))

-- the library's reversal, which goes on from the bits a
reversed_onto : (k n a : ℕ) → reverse_bits_onto k n a ≡ a * 2 ^ k + reversed k n
unfolding reverse_bits_onto reversed
reversed_onto zero n a = omega arith
reversed_onto (suc k) n a = rw (reversed_onto k (n / 2) (a * 2 + n % 2), pow-suc 2 k, add-mul (a * 2) (n % 2) (2 ^ k), mul_right_comm a 2 (2 ^ k), mul_assoc a (2 ^ k) 2) (omega arith)

pub reversed_library : (n : ℕ) → reverse_bits w16 n ≡ reversed16 n
reversed_library n = omega (arith, reversed_onto 16 n 0)

-- one shift after another
shr-suc : (x m : ℕ) → x / 2 / 2 ^ m ≡ x / 2 ^ suc m
shr-suc x m = shr-shr x 1 m ∙ ap (λ k. x / 2 ^ k) (one-add m)

-- the low m bits come out on top of the n bits above them
pub reversed-join : (n m x : ℕ) → reversed (n + m) x ≡ reversed m x * 2 ^ n + reversed n (x / 2 ^ m)
unfolding reversed
reversed-join n zero x = rw (add-zero n, div-one x) (omega arith)
reversed-join n (suc m) x =
    rw (add-suc n m, reversed-join n m (x / 2), shr-suc x m, add-mul (x % 2 * 2 ^ m) (reversed m (x / 2)) (2 ^ n), mul_assoc (x % 2) (2 ^ m) (2 ^ n), ← pow-add 2 m n, add_comm m n)
    (omega arith)

-- bits above the width are not looked at
pub reversed-above : (n k r : ℕ) → reversed n (k * 2 ^ n + r) ≡ reversed n r
unfolding reversed
reversed-above zero k r = refl
reversed-above (suc n) k r = rw (even.0, even.1, reversed-above n k (r / 2))
  where
    even : ((k * 2 ^ suc n + r) % 2 ≡ r % 2) × ((k * 2 ^ suc n + r) / 2 ≡ k * 2 ^ n + r / 2)
    even = rw (pow-suc 2 n, ← mul_assoc k (2 ^ n) 2) (omega arith, omega arith)

-- bit i of x, 0 or 1
abbrev pub bit : ℕ → ℕ → ℕ
bit x i = x / 2 ^ i % 2

-- bit i of what is reversed is bit j of x, where i and j count from the two ends
pub reversed-bit : (i j x : ℕ) → bit (reversed (suc (i + j)) x) i ≡ bit x j
unfolding reversed
reversed-bit i zero x = rw (add-zero i, high (x % 2) i (reversed-lt i (x / 2)), div-one x) (omega arith)
reversed-bit i (suc j) x =
    rw (add-suc i j)
    (bit_at_cat_low (x % 2) (suc (i + j)) (reversed (suc (i + j)) (x / 2)) i (omega arith) ∙ reversed-bit i j (x / 2) ∙ ap (λ n. n % 2) (shr-suc x j))

-- the reading of "all 16 bits reversed" that a reader wants: bit i becomes bit 15 - i
pub reversed16-bit : (i x : ℕ) → i < 16 → bit (reversed16 x) i ≡ bit x (15 - i)
reversed16-bit i x h = subst (λ n. bit (reversed n x) i ≡ bit x (15 - i)) (omega arith) (reversed-bit i (15 - i) x)

-- reversing twice gives the bits back
pub reversed-twice : (n x : ℕ) → reversed n (reversed n x) ≡ x % 2 ^ n
unfolding reversed
reversed-twice zero x = sym (mod-one x)
reversed-twice (suc n) x =
    ap (λ m. reversed m (x % 2 * 2 ^ n + reversed n (x / 2))) (sym (one-add n))
    ∙ reversed-join 1 n (x % 2 * 2 ^ n + reversed n (x / 2))
    ∙ rw (reversed-above n (x % 2) (reversed n (x / 2)), reversed-twice n (x / 2), high (x % 2) n (reversed-lt n (x / 2)), ← add-one n, mod-pow-add x n 1) (omega arith)

pub reversed16-twice : (x : ℕ) → x < 65536 → reversed16 (reversed16 x) ≡ x
reversed16-twice x h = reversed-twice 16 x ∙ mod-eq_of_lt h
