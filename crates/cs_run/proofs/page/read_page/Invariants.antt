use Rattle.std.proofs.Common.{◌≡◌, length}
use Rattle.std.specs.Option.{option_copied}
use Rattle.cs_run.specs.Pages.{with_bytes_first, page_after}
use Rattle.cs_tree_model.specs.Nexts.{names_after}
use Rattle.cs_run.proofs.page.read_page.Given as goal

abbrev pub invariant-loop-entry : goal.invariant-loop-entry
invariant-loop-entry g l =
    let t = g.T.TreeRead.tree l.tree in
    with_bytes_first l.bytes.items (page_after t l.directory l.left (option_copied l.last))
    ≡ page_after t l.fn.directory l.fn.room (option_copied l.fn.start)

abbrev pub decreases-loop-entry : goal.decreases-loop-entry
decreases-loop-entry g l = length (names_after (g.T.TreeRead.tree l.tree) l.directory (option_copied l.last))
