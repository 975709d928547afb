use Rattle.std.proofs.Common.{Some, sym, ap, ◌∙◌, subst}
use Rattle.std.specs.Option.{option_map}
use Rattle.cs_tree_model.specs.Record.{metadata_of_ref, metadata_of}
use Rattle.cs_tree_model.specs.Tree.{IsTree, Tree, record_numbered}
use Rattle.cs_state.proofs.Answering.{known_is, metadata_is, no_metadata}
use Rattle.cs_state.proofs.Calling.{is_tree}
use Rattle.cs_state.proofs.state_tree.StateTreeTreeRead.record.Goals as goal

pub metadata-requires-clause-known : goal.metadata-requires-clause-known
metadata-requires-clause-known c =
    let w = c.in_ok-node.ensures.there in
    known_is c.self.inside.state c.self.invariant w.0 c.args.number w.1.1 c.in_ok-node.node w.1.0

pub returns-in_err-node-clause-value : goal.returns-in_err-node-clause-value
returns-in_err-node-clause-value c =
    ap (option_map metadata_of_ref) c.from_residual.ensures
    ∙ sym (no_metadata c.self.inside.state c.self.invariant c.args.number c.in_err-node.ensures.none)
    ∙ ap (λ (t : Tree). option_map metadata_of (record_numbered t c.args.number)) c.self.view_is

pub returns-in_err-node-clause-is_tree : goal.returns-in_err-node-clause-is_tree
returns-in_err-node-clause-is_tree c = subst IsTree c.self.view_is (is_tree c.self.inside.state c.self.invariant)

pub returns-clause-value : goal.returns-clause-value
returns-clause-value c =
    let w = c.in_ok-node.ensures.there in
    ap Some c.metadata.ensures
    ∙ sym (metadata_is c.self.inside.state c.self.invariant w.0 c.args.number w.1.1 c.in_ok-node.node w.1.0)
    ∙ ap (λ (t : Tree). option_map metadata_of (record_numbered t c.args.number)) c.self.view_is

pub returns-clause-is_tree : goal.returns-clause-is_tree
returns-clause-is_tree c = subst IsTree c.self.view_is (is_tree c.self.inside.state c.self.invariant)
