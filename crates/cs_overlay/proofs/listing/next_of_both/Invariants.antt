use Rattle.std.proofs.Common.{Option, IsSome}
use Rattle.std.specs.FinMap.{get, entries}
use Rattle.std.specs.Option.{option_copied}
use Rattle.cs_tree_model.specs.Nexts.{IsEntryBelow}
use Rattle.cs_tree_model.specs.Tree.{NameBytes, number_in}
use Rattle.cs_overlay.proofs.Merging.{shown, left_after}
use Rattle.cs_overlay.proofs.listing.next_of_both.Given as goal

-- what is next from here is what was asked for
abbrev pub invariant-loop-name : goal.invariant-loop-name
invariant-loop-name g l =
    (o : Option NameBytes)
    → IsEntryBelow (λ y. IsSome (shown (get l.answers) (number_in (g.L.TreeRead.tree l.lower) l.directory) y)) (option_copied l.from)
    (option_copied l.bound) o
    → IsEntryBelow (λ y. IsSome (shown (get l.answers) (number_in (g.L.TreeRead.tree l.lower) l.directory) y)) (option_copied l.fn.last)
    (option_copied l.bound) o

abbrev pub decreases-loop-name : goal.decreases-loop-name
decreases-loop-name g l = left_after (option_copied l.from) (entries l.answers)
