-- `push`: one arm for each depth, as the definition has them; there is no cell 4.
use Rattle.std.proofs.Common.{◌≤◌, [], ◌∷◌, sym, arith}
use lib.ListN.{get_or-eq_default}
use Rattle.device.specs.Set.{set_depth, set_stack0, set_stack1, set_stack2, set_stack3}
use Rattle.flow.specs.Stack.{pushed}
use Rattle.flow.proofs.stack.push.Goals as goal

pub returns-in_default : goal.returns-in_default
unfolding pushed
returns-in_default c =
    let r = c.args.r in
    let x = c.args.address in
    let above : 4 ≤ r.depth = omega arith in
    sym (get_or-eq_default (set_depth (set_stack0 r x) 1 ∷ set_depth (set_stack1 r x) 2 ∷ set_depth (set_stack2 r x) 3 ∷ set_depth (set_stack3 r x) 4 ∷ []) r {n = r.depth} above)
