-- An operation's code is its place in the table of codes.
-- Assumes nothing.
use Rattle.std.proofs.Common.{◌≡◌, refl}
use Rattle.alu.specs.Operations.{operation_of, operation_code}
use Rattle.alu.specs.declared.Operation.{Operation}
use Rattle.alu.specs.declared.Operation.TheVariants.{None, Or, And, Xor, Sub, Add, Sbb, Adc, Dec, Inc, Cmp, Shr1, Shl1, Shl2, Shl4, Xchg}

pub operation-coded : (operation : Operation) → operation_of (operation_code operation) ≡ operation
operation-coded = elim [ None ↦ refl | Or ↦ refl | And ↦ refl | Xor ↦ refl | Sub ↦ refl | Add ↦ refl | Sbb ↦ refl | Adc ↦ refl | Dec ↦ refl | Inc ↦ refl | Cmp ↦ refl | Shr1 ↦ refl | Shl1 ↦ refl | Shl2 ↦ refl | Shl4 ↦ refl | Xchg ↦ refl ]
