use Rattle.std.proofs.Common.{IsSome, sym, subst}
use Rattle.std.specs.Option.{option_copied, option_map}
use Rattle.cs_tree_model.specs.Laws.Nexts.{entry_holds}
use Rattle.cs_tree_model.specs.Nexts.{entry_name, IsEntryBelow}
use Rattle.cs_tree_model.specs.Tree.{number_in}
use Rattle.cs_overlay.specs.Layers.{found_at}
use Rattle.cs_overlay.proofs.listing.entry_after.Goals as goal

pub returns-in-None-clause-name : goal.returns-in-None-clause-name
returns-in-None-clause-name g c =
    subst (λ w. IsEntryBelow (λ y. IsSome (found_at (g.L.TreeRead.tree c.args.lower.now) c.args.directory y (option_copied w)))
    (option_copied c.args.last) (option_copied c.args.bound) (option_map entry_name c.entry_after.result)) (sym c.in-None.is)
    (subst (IsEntryBelow (λ y. IsSome (number_in (g.L.TreeRead.tree c.args.lower.now) c.args.directory y)) (option_copied c.args.last)
    (option_copied c.args.bound)) (sym c.entry_after.ensures.name)
    (entry_holds (g.L.TreeRead.tree c.args.lower.now) c.args.directory (option_copied c.args.last) (option_copied c.args.bound)))
