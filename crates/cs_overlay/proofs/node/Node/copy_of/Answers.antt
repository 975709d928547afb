use Rattle.std.proofs.Common.{refl, sym, ◌∙◌}
use Rattle.cs_overlay.specs.declared.node.Node.{Node}
use Rattle.cs_overlay.proofs.Copies.{copy_of, not_root}
use Rattle.cs_overlay.proofs.Views.{has_directory}
use Rattle.cs_overlay.proofs.node.Node.copy_of.Goals as goal

pub unreachable-requires : goal.unreachable-requires
unreachable-requires g c =
    let t = g.L.TreeRead.tree c.args.lower.now in
    has_directory t c.in-Some.ensures.is_tree c.args.number _ c.in-Some.ensures.value
    (sym c.parent_of.ensures ∙ c.in_default-parent_of.is)

pub returns-clause-copy : goal.returns-clause-copy
returns-clause-copy g c =
    let d : Node = record {
      parent = c.in-Some-parent_of.parent;
      name = c.in_ok-name.name;
      metadata = c.in_ok-metadata.metadata;
      body = c.of_copy-body.result;
    } in
    copy_of (g.L.TreeRead.tree c.args.lower.now) c.args.number _ c.in-Some.ensures.value c.in-Some-parent_of.parent
    c.in-Some-parent_of.ensures
    c.in_ok-name.name (c.in_ok-name.ensures ∙ c.name_of.ensures) d c.in_ok-metadata.ensures refl refl c.of_copy-body.ensures.content
    c.of_copy-body.ensures.hides c.of_copy-body.ensures.own
    (not_root (g.L.TreeRead.tree c.args.lower.now) c.in-Some.ensures.is_tree c.args.number)
