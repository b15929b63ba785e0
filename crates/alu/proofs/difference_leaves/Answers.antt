-- The machine's difference is the whole one: it fits an i32.
use Rattle.std.proofs.Common.{◌≡◌, pos, ◌-ℤ◌, ap, arith, w32, to_z, of_z}
use Rattle.numbers.specs.Signed.{signed, leaves}
use Rattle.numbers.proofs.Signed.{signs}
use Rattle.alu.proofs.difference_leaves.Goals as goal

pub returns : goal.returns
unfolding leaves
returns c =
    let e : to_z w32 (of_z w32 (to_z w32 (of_z w32 (to_z w32 (of_z w32 c.sign_extend.result) -ℤ to_z w32 (of_z w32 c.sign_extend-2.result))) -ℤ to_z w32 c.args.k)) ≡ signed c.args.x -ℤ signed c.args.y -ℤ pos c.args.k = omega (arith, signs, c.sign_extend.ensures, c.sign_extend-2.ensures) in
    ap leaves e
