use Rattle.std.proofs.Common.{arith, ◌≡◌, ◌+◌, ◌<◌, ℕ, subst}
use Rattle.std.proofs.lemmas.Result.{IfOk-weaker}
use Rattle.cs_same_states.specs.Trees.{AreSameAt}
use Rattle.cs_same_states.proofs.Nodes.{whole}
use Rattle.cs_same_states.proofs.trees.are_same_trees.Goals as goal

pub returns : goal.returns
returns g c =
    let t = g.A.TreeRead.tree c.args.tree.now in
    let u = g.B.TreeRead.tree c.args.other.now in
    let last = c.last_number-last.result in
    let here : t.next ≡ last + 1 = c.last_number-last.ensures in
    let there : u.next ≡ last + 1 = omega (arith, c.last_number.ensures, c.if-last-last_number.false) in
    let all : c.loop-number.number ≡ last = omega arith in
    let below : (n : ℕ) → n < last → AreSameAt t u n = subst (λ k. (n : ℕ) → n < k → AreSameAt t u n) all c.loop-number.invariant in
    IfOk-weaker c.are_same_at-2.result _ _ (whole t u c.count.ensures.is_tree c.count-2.ensures.is_tree last here there below)
    c.are_same_at-2.ensures
