use Rattle.std.proofs.Common.{None, Some, ap, ◌∙◌}
use Rattle.std.specs.Option.{option_map}
use Rattle.cs_tree_model.specs.Record.{metadata_of_ref}
use Rattle.cs_frozen.proofs.Lookups.{fresh_none, fresh_some, record_is, is_tree_fresh}
use Rattle.cs_frozen.proofs.lower.LowerTreeRead.record.Goals as goal

pub returns-in_err-own-clause-value : goal.returns-in_err-own-clause-value
returns-in_err-own-clause-value g c =
    ap (option_map metadata_of_ref) c.from_residual.ensures ∙ record_is (g.T.TreeRead.tree c.self.inside.tree) c.self.inside.numbers.items
    c.self.inside.places.items c.self.invariant _ c.self.view_is c.deref.result.now c.deref.ensures.value c.args.number None
    c.in_err-own.ensures

pub returns-in_err-metadata-clause-value : goal.returns-in_err-metadata-clause-value
returns-in_err-metadata-clause-value g c =
    ap (option_map metadata_of_ref) c.from_residual-in_err-metadata.ensures ∙ fresh_none c.args.number _ c.in_err-metadata.ensures.value ∙
    record_is (g.T.TreeRead.tree c.self.inside.tree) c.self.inside.numbers.items c.self.inside.places.items c.self.invariant _
    c.self.view_is c.deref.result.now c.deref.ensures.value c.args.number (Some c.in_ok-own.own) c.in_ok-own.ensures

pub returns-clause-value : goal.returns-clause-value
returns-clause-value g c =
    ap Some c.fresh_metadata.ensures
    ∙ fresh_some c.args.number (metadata_of_ref c.in_ok-metadata.metadata) _ c.in_ok-metadata.ensures.value ∙
    record_is (g.T.TreeRead.tree c.self.inside.tree) c.self.inside.numbers.items c.self.inside.places.items c.self.invariant _
    c.self.view_is c.deref.result.now c.deref.ensures.value c.args.number (Some c.in_ok-own.own) c.in_ok-own.ensures

pub returns-in_err-own-clause-is_tree : goal.returns-in_err-own-clause-is_tree
returns-in_err-own-clause-is_tree g c =
    is_tree_fresh (g.T.TreeRead.tree c.self.inside.tree) c.self.inside.numbers.items c.self.inside.places.items c.self.invariant _
    c.self.view_is

pub returns-in_err-metadata-clause-is_tree : goal.returns-in_err-metadata-clause-is_tree
returns-in_err-metadata-clause-is_tree g c =
    is_tree_fresh (g.T.TreeRead.tree c.self.inside.tree) c.self.inside.numbers.items c.self.inside.places.items c.self.invariant _
    c.self.view_is

pub returns-clause-is_tree : goal.returns-clause-is_tree
returns-clause-is_tree g c =
    is_tree_fresh (g.T.TreeRead.tree c.self.inside.tree) c.self.inside.numbers.items c.self.inside.places.items c.self.invariant _
    c.self.view_is
