use Rattle.std.proofs.Common.{ap, sym, ◌∙◌}
use Rattle.cs_entries.specs.Directories.{entries_in}
use Rattle.cs_entries.specs.Paths.{at_path}
use Rattle.cs_entries.specs.Tables.{held_in}
use Rattle.cs_entries.proofs.Tables.{held_table}
use Rattle.cs_entries.proofs.table.Directories.at.Goals as goal

pub returns : goal.returns
returns c =
    let names = c.args.names in
    c.node_at.ensures ∙ ap (λ ds. at_path (entries_in ds) names) c.deref.ensures.value
    ∙ ap (λ m. at_path m names) (sym (held_table c.self.inside.by_number.items))
    ∙ ap (λ t. at_path (held_in t) names) c.self.view_is
