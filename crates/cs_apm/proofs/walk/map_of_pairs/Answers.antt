use Rattle.std.proofs.Common.{◌++◌, ap, ◌∙◌}
use Rattle.std.specs.FinMap.{from_entries}
use Rattle.std.specs.Option.{option_to_list}
use Rattle.cs_tree_model.specs.Laws.Paths.{path_exact, path_total}
use Rattle.cs_tree_model.specs.Tree.{path_cmp}
use Rattle.cs_apm.proofs.Views.{insert-keyed}
use Rattle.cs_apm.proofs.Walking.{mapped_more, none_mapped}
use Rattle.cs_apm.proofs.walk.map_of_pairs.Goals as goal

pub loop-path-init : goal.loop-path-init
loop-path-init c = none_mapped c.args.pairs.items _ (ap (λ es. from_entries {R = path_cmp} es) c.new-nodes.ensures.empty)

pub loop-path-preserved : goal.loop-path-preserved
loop-path-preserved c =
    mapped_more c.args.pairs.items c.pop.new.self.items c.loop-path.pairs.items _ _ c.in-Some.path c.in-Some.node c.loop-path.invariant
    (c.pop.ensures.items ∙ ap (λ o. c.pop.new.self.items ++ option_to_list o) c.in-Some.is)
    (ap from_entries c.in_ok-insert.ensures.entries
    ∙ insert-keyed path_total path_exact c.loop-path.nodes.entries c.in-Some.path c.in-Some.node)
