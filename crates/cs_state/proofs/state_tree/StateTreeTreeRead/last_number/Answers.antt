use Rattle.std.proofs.Common.{ap, arith}
use Rattle.cs_tree_model.specs.Tree.{Tree}
use Rattle.cs_state.proofs.Calling.{is_tree, next_is}
use Rattle.cs_state.proofs.state_tree.StateTreeTreeRead.last_number.Goals as goal

pub overflow_sub-result : goal.overflow_sub-result
overflow_sub-result c =
    let s = c.self.inside.state in
    let tree = is_tree s c.self.invariant in
    let some = tree.below _ tree.root.0 tree.root.1 in
    let next = next_is s c.self.invariant in
    let count = c.count.ensures in
    omega (arith, some, next, count)

pub returns : goal.returns
returns c =
    let s = c.self.inside.state in
    let tree = is_tree s c.self.invariant in
    let some = tree.below _ tree.root.0 tree.root.1 in
    let next = next_is s c.self.invariant in
    let count = c.count.ensures in
    let same = ap (λ (t : Tree). t.next) c.self.view_is in
    omega (arith, some, next, count, same)
