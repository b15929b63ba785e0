-- The six flags of an accumulator after an operation, one definition for each with its sentence of 01, "One OP or RT word".
use Rattle.std.specs.Prelude.{ℕ, ◌+◌, Bool, true, false, cond, not, ◌&&◌, ℤ, ◌==◌, nat_le, nat_lt}
use Rattle.std.specs.Bool.{beq}
use Rattle.numbers.specs.Signed.{leaves}
use Rattle.alu.specs.declared.Flags.{Flags}

-- "S0 is the result's top bit"
abbrev pub s0_of : ℕ → Bool
s0_of result = nat_le 32768 result

-- "Z whether it is zero"
abbrev pub z_of : ℕ → Bool
z_of result = result == 0

-- "C is the unsigned carry or borrow": of x + y + k, and of x - y - k
abbrev pub carry_of : ℕ → ℕ → ℕ → Bool
carry_of x y k = nat_le 65536 (x + y + k)

abbrev pub borrow_of : ℕ → ℕ → ℕ → Bool
borrow_of x y k = nat_lt x (y + k)

-- "OV0 is 1 exactly when the signed whole-number result leaves -32768 to 32767"
abbrev pub ov0_of : ℤ → Bool
ov0_of whole = leaves whole

-- "If OV1 was 0, S1 becomes S0", "If OV1 was 1, S1 stays": OV1 and S1 before, the new S0
abbrev pub s1_of : Bool → Bool → Bool → Bool
s1_of false s1 s0 = s0
s1_of true s1 s0 = s1

-- "If OV1 was 0, .. OV1 becomes OV0", "If OV1 was 1, .. OV1 stays 1 unless OV0 is 1 and S0 differs from S1":
-- OV1 and S1 before, the new S0 and OV0
abbrev pub ov1_of : Bool → Bool → Bool → Bool → Bool
ov1_of false s1 s0 ov0 = ov0
ov1_of true s1 s0 ov0 = not (ov0 && not (beq s0 s1))

-- "SGN is 7FFFH if A's S1 is 1, else 8000H"
abbrev pub sgn_of : Bool → ℕ
sgn_of s1 = cond s1 0x7fff 0x8000

-- the flags after SUB, ADD, SBB, ADC, DEC or INC: the flags before, the result kept to 16 bits, its C and its OV0
unfoldable pub sum_flags : Flags → ℕ → Bool → Bool → Flags
sum_flags before result c ov0 =
    let s1 = s1_of before.ov1 before.s1 (s0_of result) in
    let ov1 = ov1_of before.ov1 before.s1 (s0_of result) ov0 in
    record { s1 = s1; s0 = s0_of result; c = c; z = z_of result; ov1 = ov1; ov0 = ov0 }

-- "Every other operation but none clears OV0 and OV1 and sets S1 to S0"
abbrev pub other_flags : ℕ → Bool → Flags
other_flags result c = record { s1 = s0_of result; s0 = s0_of result; c = c; z = z_of result; ov1 = false; ov0 = false }
