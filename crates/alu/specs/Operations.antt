-- The sixteen operations on one accumulator, from 01, "One OP or RT word", "ALU 0 to 15" on.
use Rattle.std.specs.Prelude.{ℕ, ◌+◌, ◌-◌, ◌*◌, ◌/◌, ◌%◌, Bool, false, List, [], ◌∷◌, pos, ◌+ℤ◌, ◌-ℤ◌, ◌==◌, bit_and, bit_or, bit_xor, slice_index_or}
use mir.Val.{bool_byte}
use Rattle.numbers.specs.Signed.{signed, floor_div, kept16}
use Rattle.alu.specs.Flags.{s0_of, carry_of, borrow_of, ov0_of, sum_flags, other_flags}
use Rattle.alu.specs.declared.Accumulator.{Accumulator}
use Rattle.alu.specs.declared.Operation.{Operation}
use Rattle.alu.specs.declared.Plan.{Plan}
use Rattle.alu.specs.declared.Plan.TheVariants.{Keep, Plus, Minus, Other}
use Rattle.alu.specs.declared.Operation.TheVariants.{None, Or, And, Xor, Sub, Add, Sbb, Adc, Dec, Inc, Cmp, Shr1, Shl1, Shl2, Shl4, Xchg}

-- "ALU 0 to 15"; a larger number is no code and names no operation
abbrev pub operations : List Operation
operations = None ∷ Or ∷ And ∷ Xor ∷ Sub ∷ Add ∷ Sbb ∷ Adc ∷ Dec ∷ Inc ∷ Cmp ∷ Shr1 ∷ Shl1 ∷ Shl2 ∷ Shl4 ∷ Xchg ∷ []

abbrev pub operation_of : ℕ → Operation
operation_of code = slice_index_or operations code None

abbrev pub operation_code : Operation → ℕ
operation_code = elim [ None ↦ 0 | Or ↦ 1 | And ↦ 2 | Xor ↦ 3 | Sub ↦ 4 | Add ↦ 5 | Sbb ↦ 6 | Adc ↦ 7 | Dec ↦ 8 | Inc ↦ 9 | Cmp ↦ 10 | Shr1 ↦ 11 | Shl1 ↦ 12 | Shl2 ↦ 13 | Shl4 ↦ 14 | Xchg ↦ 15 ]

-- "Sums are kept to 16 bits and wrap on purpose": the accumulator plus y plus a carry, and minus y minus a borrow
unfoldable pub plus : Accumulator → ℕ → ℕ → Accumulator
plus a y k =
    let x = a.value in
    let result = (x + y + k) % 65536 in
    record { value = result; flags = sum_flags a.flags result (carry_of x y k) (ov0_of (signed x +ℤ signed y +ℤ pos k)) }

unfoldable pub minus : Accumulator → ℕ → ℕ → Accumulator
minus a y k =
    let x = a.value in
    let result = (x + 65536 - (y + k)) % 65536 in
    record { value = result; flags = sum_flags a.flags result (borrow_of x y k) (ov0_of (signed x -ℤ signed y -ℤ pos k)) }

-- the result of any other operation with its C
abbrev pub other : ℕ → Bool → Accumulator
other result c = record { value = result; flags = other_flags result c }

-- What an operation makes of the accumulator's value x and the operand p: nothing, a sum, a difference, or another result with its C; c is
-- the other accumulator's C.
abbrev pub plan_of : Operation → ℕ → ℕ → Bool → Plan
plan_of None x p c = Keep
plan_of Or x p c = Other (bit_or x p) false
plan_of And x p c = Other (bit_and x p) false
plan_of Xor x p c = Other (bit_xor x p) false
plan_of Sub x p c = Minus p false
plan_of Add x p c = Plus p false
-- "SBB and ADC take the other accumulator's C"
plan_of Sbb x p c = Minus p c
plan_of Adc x p c = Plus p c
plan_of Dec x p c = Minus 1 false
plan_of Inc x p c = Plus 1 false
-- "CMP (ones' complement)"
plan_of Cmp x p c = Other (65535 - x) false
-- "C is the bit shifted out for SHR1 (sign kept) and SHL1 (the other accumulator's C comes in), and 0 for the rest"
plan_of Shr1 x p c = Other (kept16 (floor_div (signed x) 2)) (x % 2 == 1)
plan_of Shl1 x p c = Other (x * 2 % 65536 + bool_byte c) (s0_of x)
-- "SHL2 and SHL4 bring in ones"
plan_of Shl2 x p c = Other (x * 4 % 65536 + 3) false
plan_of Shl4 x p c = Other (x * 16 % 65536 + 15) false
-- "XCHG (bytes)"
plan_of Xchg x p c = Other (x % 256 * 256 + x / 256) false

abbrev pub carried_out : Plan → Accumulator → Accumulator
carried_out Keep a = a
carried_out (Plus y c) a = plus a y (bool_byte c)
carried_out (Minus y c) a = minus a y (bool_byte c)
carried_out (Other value c) a = other value c

-- an operation on the accumulator a with the operand p
unfoldable pub operated : Operation → Accumulator → ℕ → Bool → Accumulator
operated operation a p c = carried_out (plan_of operation a.value p c) a
