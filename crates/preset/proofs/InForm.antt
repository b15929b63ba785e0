-- What is written has the writer's form. Assumes nothing.
use mathlib.Core.Path.{◌≡◌, refl, ap, ◌∙◌}
use mathlib.Core.List.{List}
use Prim.Native.Nat.{ℕ, zero, suc, ◌+◌, ◌*◌, ◌≤◌}
use native.Mathlib.Omega.{arith}
use lib.ListN.{length, take, drop, length-take, length-drop}
use Rattle.image.proofs.Members.{taken, dropped}
use Rattle.image.proofs.CellBytes.{Byte, Bytes}
use Rattle.preset.specs.Written.{end_line, record_lines}
use Rattle.preset.specs.Form.{FormLines}
use Rattle.preset.proofs.Readable.{head-is, feed-alone, large}

pub lines-form : (records address : ℕ) (bs : List ℕ) → Bytes bs → length bs ≡ 16 * records → address + 16 * records ≤ 65536
    → FormLines records address (record_lines records address bs)
unfolding record_lines end_line
lines-form zero address bs h e inside = refl
lines-form (suc records) address bs h e inside =
    let here = take 16 bs in
    let long : length here ≡ 16 = omega (arith, length-take 16 bs) in
    let are = taken Byte 16 bs h in (
      record {
        says = head-is address here (omega arith) (omega arith) are ∙ ap (λ (n : ℕ). record { number = 0; kind = 0; address = address; length = n }) long;
        in_capitals = large address here (omega arith) (omega arith) are;
        feed_alone = feed-alone address here (omega arith) (omega arith) are;
      },
      lines-form records (address + 16) (drop 16 bs) (dropped Byte 16 bs h) (omega (arith, length-drop 16 bs)) (omega arith),
    )
