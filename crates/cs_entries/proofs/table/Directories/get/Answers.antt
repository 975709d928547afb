use Rattle.std.proofs.Common.{ap, sym, ◌∙◌}
use Rattle.std.specs.FinMap as map
use Rattle.cs_entries.specs.Directories.{entries_in}
use Rattle.cs_entries.specs.Paths.{entry_in}
use Rattle.cs_entries.proofs.Tables.{get_table}
use Rattle.cs_entries.proofs.table.Directories.get.Goals as goal

pub returns : goal.returns
returns c =
    let e = entry_in c.args.directory c.args.name.now in
    c.node_in.ensures ∙ ap (λ ds. entries_in ds e) c.deref.ensures.value
    ∙ sym (get_table c.self.inside.by_number.items e) ∙ ap (λ t. map.get t e) c.self.view_is
