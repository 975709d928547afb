use Rattle.std.proofs.Common.{ap, ◌∙◌}
use Rattle.cs_entries.specs.Directories.{table_by}
use Rattle.cs_entries.specs.Tables.{has_entries}
use Rattle.cs_entries.proofs.Tables.{has_by}
use Rattle.cs_entries.proofs.table.Directories.has_entries.Goals as goal

pub returns : goal.returns
returns c =
    let d = c.args.directory in
    has_by c.deref.result.now d c.has_entries.result c.has_entries.ensures.none c.has_entries.ensures.some
    ∙ ap (λ ds. has_entries (table_by ds) d) c.deref.ensures.value
    ∙ ap (λ t. has_entries t d) c.self.view_is
