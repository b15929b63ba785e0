-- The part by its place: a good record's part stands in the line from its ninth character on, a refused one's is empty.
-- Assumes nothing.
use mathlib.Core.Path.{◌≡◌, refl, ap}
use mathlib.Core.Bool.{Bool, true, false}
use mathlib.Core.List.{List}
use Prim.Native.Nat.{ℕ, ◌+◌, ◌*◌, ◌≤◌}
use native.Mathlib.Omega.{arith}
use lib.ListN.{length, take, drop}
use lib.Dec.{eqb}
use borrow.Author.Tests.{eqb-true, eqb-false}
use Rattle.image.specs.IntelHex.{record_head, data_part, data_start}
use Rattle.image.proofs.Records.{start-good, part-within, part-refused, refused-length}
use Rattle.board.specs.RecordInLine.{record_in_line, PartInLine}

module _ (line : List ℕ) where
  within : Type 0
  within =
      (data_start line + 2 * (record_head line).length ≤ length line)
      × (take (2 * (record_head line).length) (drop (data_start line) line) ≡ data_part line)

  within-if : (b : Bool) → eqb (record_head line).number 0 ≡ b → within
  unfolding within data_part
  within-if true e =
      let h = eqb-true _ _ e in (
        omega (arith, start-good line h, part-within line h),
        ap (λ (n : ℕ). take (2 * (record_head line).length) (drop n line)) (start-good line h),
      )
  within-if false e =
      let h : ((record_head line).number ≡ 0 → ⊥) = eqb-false _ _ e in
      let none = refused-length line h in
      (omega (arith, none, (part-refused line h).1), rw none)

pub part-in-line : PartInLine
unfolding record_in_line within
part-in-line line = within-if line (eqb (record_head line).number 0) refl
