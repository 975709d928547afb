use Rattle.std.proofs.Common.{◌≡◌, length, ap, sym, ◌∙◌}
use Rattle.std.specs.FinMap as map
use Rattle.cs_entries.specs.Directories.{entries_in, table_by}
use Rattle.cs_entries.specs.Paths.{entry_in}
use Rattle.cs_entries.proofs.Results.{refilled}
use Rattle.cs_entries.proofs.Tables.{get_table, table_remove}
use Rattle.cs_entries.proofs.table.Directories.remove.Goals as goal

pub returns-clause-before : goal.returns-clause-before
returns-clause-before c =
    let e = entry_in c.args.directory c.args.name.now in
    c.release.ensures.before ∙ ap (λ ds. entries_in ds e) c.deref_mut.ensures.value
    ∙ sym (get_table c.self.inside.by_number.items e) ∙ ap (λ t. map.get t e) c.self.view_is

pub returns-clause-state : goal.returns-clause-state
returns-clause-state c =
    let e = entry_in c.args.directory c.args.name.now in
    let v = c.self.inside.by_number in
    let long : length c.release.new.directories ≡ length v.items =
    c.release.auto.directories ∙ ap length c.deref_mut.ensures.value in
    ap table_by (refilled v.len c.release.new.directories v.items (long ∙ sym v.ok.0) (sym v.ok.0))
    ∙ table_remove c.release.new.directories c.deref_mut.result.now e c.release.ensures.state
    ∙ ap (λ ds. map.remove (table_by ds) e) c.deref_mut.ensures.value
    ∙ ap (λ t. map.remove t e) c.self.view_is
