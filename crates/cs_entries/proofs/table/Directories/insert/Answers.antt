use Rattle.std.proofs.Common.{◌≡◌, length, ap, sym, ◌∙◌}
use Rattle.std.specs.FinMap as map
use Rattle.std.specs.String.{string_bytes}
use Rattle.cs_entries.specs.Directories.{entries_in, table_by}
use Rattle.cs_entries.specs.Paths.{entry_in}
use Rattle.cs_entries.proofs.Results.{always, if_ok, on_err, on_ok, refilled}
use Rattle.cs_entries.proofs.Tables.{get_table, same_tables, table_insert}
use Rattle.cs_entries.proofs.table.Directories.insert.Goals as goal

pub returns-in_err-grow-clause-err : goal.returns-in_err-grow-clause-err
returns-in_err-grow-clause-err c =
    always c.from_residual.result
    (same_tables c.grow.new.directories.items c.self.inside.by_number.items c.grow.ensures.same ∙ c.self.view_is)

pub returns-clause-before : goal.returns-clause-before
returns-clause-before c =
    let e = entry_in c.args.directory (string_bytes c.args.name) in
    if_ok c.hold.result
    (λ before is.
    is ∙ ap (λ ds. entries_in ds e) c.deref_mut.ensures.value ∙ c.grow.ensures.same e
    ∙ sym (get_table c.self.inside.by_number.items e) ∙ ap (λ t. map.get t e) c.self.view_is)
    c.hold.ensures.before

pub returns-clause-ok : goal.returns-clause-ok
returns-clause-ok c =
    let e = entry_in c.args.directory (string_bytes c.args.name) in
    let node = c.args.node in
    let long : length c.hold.new.directories ≡ length c.grow.new.directories.items =
    c.hold.auto.directories ∙ ap length c.deref_mut.ensures.value in
    let all = refilled c.grow.new.directories.len c.hold.new.directories c.grow.new.directories.items
    (long ∙ sym c.grow.new.directories.ok.0) (sym c.grow.new.directories.ok.0) in
    on_ok c.hold.result
    (λ is.
    ap table_by all ∙ table_insert c.hold.new.directories c.deref_mut.result.now e node is
    ∙ ap (λ ds. map.insert (table_by ds) e node) c.deref_mut.ensures.value
    ∙ ap (λ t. map.insert t e node)
    (same_tables c.grow.new.directories.items c.self.inside.by_number.items c.grow.ensures.same ∙ c.self.view_is))
    c.hold.ensures.ok

pub returns-clause-err : goal.returns-clause-err
returns-clause-err c =
    let long : length c.hold.new.directories ≡ length c.grow.new.directories.items =
    c.hold.auto.directories ∙ ap length c.deref_mut.ensures.value in
    let all = refilled c.grow.new.directories.len c.hold.new.directories c.grow.new.directories.items
    (long ∙ sym c.grow.new.directories.ok.0) (sym c.grow.new.directories.ok.0) in
    on_err c.hold.result
    (λ is.
    ap table_by all ∙ same_tables c.hold.new.directories c.deref_mut.result.now is
    ∙ ap table_by c.deref_mut.ensures.value
    ∙ same_tables c.grow.new.directories.items c.self.inside.by_number.items c.grow.ensures.same ∙ c.self.view_is)
    c.hold.ensures.err
