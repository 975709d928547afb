use Rattle.std.proofs.Common.{nat_eq, IsSome, ℕ, List, Option, refl, subst}
use Rattle.std.proofs.lemmas.Result.{on_err_weaker, on_ok_weaker}
use Rattle.std.specs.HashMap.{get}
use Rattle.cs_tree_model.specs.Stores.{changed_record}
use Rattle.cs_tree_model.specs.Tree.{content_numbered}
use Rattle.cs_overlay.specs.Layers.{content_over, IsNode, IsStep}
use Rattle.cs_overlay.proofs.Unseen.{changed_at, no_entry, some_node, steps_of}
use Rattle.cs_overlay.proofs.table.change_entry.Goals as goal

pub change_node-requires-clause-there : goal.change_node-requires-clause-there
change_node-requires-clause-there c =
    some_node (get nat_eq c.args.nodes.now) c.args.number c.in-Some.entry.now c.in-Some.ensures.value c.requires.there

pub unreachable-requires : goal.unreachable-requires
unreachable-requires c = no_entry (get nat_eq c.args.nodes.now) c.args.number c.in-None.ensures.value c.requires.there

pub returns-clause-ok : goal.returns-clause-ok
returns-clause-ok c = on_ok_weaker c.change_node.result (λ all t nodes file.
    let h = changed_at
    (λ d e. (low : Option (List ℕ)) (n : ℕ) → IsNode low n d → (IsSome c.args.fields.now.length → IsSome (content_over low d.body))
    → IsStep low n (changed_record c.args.fields.now c.args.stamp) d e)
    (get nat_eq c.args.nodes.now) (get nat_eq (c.get_mut.follows.lender c.change_node.new.entry)) c.args.number c.in-Some.entry.now
    c.change_node.new.entry c.in-Some.ensures.value c.requires.there
    ((c.get_mut.follows.holds c.change_node.new.entry).3 (subst IsSome c.in-Some.ensures.value refl)).0 c.change_node.ensures.there all in
    steps_of t _ _ c.args.number _ h.0 h.1 h.2
    (h.3 (content_numbered t c.args.number) c.args.number (nodes c.args.number h.0 h.2) (file h.0 h.2)) h.4) c.change_node.ensures.ok

pub returns-clause-err : goal.returns-clause-err
returns-clause-err c = on_err_weaker c.change_node.result (λ all t nodes.
    let h = changed_at (λ d e. (low : Option (List ℕ)) (n : ℕ) → IsNode low n d → IsStep low n (λ r. r) d e)
    (get nat_eq c.args.nodes.now) (get nat_eq (c.get_mut.follows.lender c.change_node.new.entry)) c.args.number c.in-Some.entry.now
    c.change_node.new.entry c.in-Some.ensures.value c.requires.there
    ((c.get_mut.follows.holds c.change_node.new.entry).3 (subst IsSome c.in-Some.ensures.value refl)).0 c.change_node.ensures.there all in
    steps_of t _ _ c.args.number _ h.0 h.1 h.2 (h.3 (content_numbered t c.args.number) c.args.number (nodes c.args.number h.0 h.2)) h.4)
    c.change_node.ensures.err
