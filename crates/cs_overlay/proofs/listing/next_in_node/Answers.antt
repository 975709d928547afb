use Rattle.std.proofs.Common.{IsSome, sym, subst}
use Rattle.std.specs.Option.{option_copied, option_map}
use Rattle.cs_tree_model.specs.Laws.Nexts.{entry_holds}
use Rattle.cs_tree_model.specs.Nexts.{entry_name, IsEntryBelow}
use Rattle.cs_tree_model.specs.Tree.{number_in}
use Rattle.cs_overlay.specs.Layers.{own_in, said_over}
use Rattle.cs_overlay.proofs.listing.next_in_node.Goals as goal

pub returns-in-File-clause-name : goal.returns-in-File-clause-name
returns-in-File-clause-name g c =
    subst (λ b. IsEntryBelow (λ y. IsSome (said_over (g.L.TreeRead.tree c.args.lower.now) c.args.directory y (own_in b y)))
    (option_copied c.args.last) (option_copied c.args.bound) (option_map entry_name c.entry_after.result)) (sym c.in-File.is)
    (subst (IsEntryBelow (λ y. IsSome (number_in (g.L.TreeRead.tree c.args.lower.now) c.args.directory y)) (option_copied c.args.last)
    (option_copied c.args.bound)) (sym c.entry_after.ensures.name)
    (entry_holds (g.L.TreeRead.tree c.args.lower.now) c.args.directory (option_copied c.args.last) (option_copied c.args.bound)))
