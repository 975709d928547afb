use Rattle.std.proofs.Common.{ap, sym, ◌∙◌}
use Rattle.std.specs.FinMap as map
use Rattle.cs_tree_model.specs.Fresh.{with_numbers_from}
use Rattle.cs_tree_model.specs.Maps.Values.{entries-map_values}
use Rattle.cs_tree_model.specs.Tree.{path_cmp}
use Rattle.cs_start.specs.Entries.{record_of, with_records}
use Rattle.cs_start.proofs.start_map.StartMap.into_lists.Goals as goal

pub returns-clause-records : goal.returns-clause-records
returns-clause-records c =
    c.in_ok-append_to.ensures.records
    ∙ ap (λ rs. with_records rs (map.entries c.args.self)) c.in_ok-lists.ensures.records
    ∙ ap (with_numbers_from 0) (sym (entries-map_values path_cmp record_of c.args.self))
