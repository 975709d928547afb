use Rattle.std.proofs.Common.{Some, ap, ◌∙◌}
use Rattle.std.specs.FinMap.{from_entries}
use Rattle.cs_entries.specs.Laws.Records.{entry_exact, entry_total}
use Rattle.cs_apm.proofs.Views.{insert-keyed}
use Rattle.cs_apm.proofs.held.hold.Goals as goal

pub returns : goal.returns
returns c =
    ap from_entries c.in_ok-insert.ensures.entries
    ∙ insert-keyed entry_total entry_exact c.args.held.now.entries c.args.entry (Some c.args.node)
