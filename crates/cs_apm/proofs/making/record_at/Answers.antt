use Rattle.std.proofs.Common.{◌≡◌, ◌<◌, IfOk, Some, ap, get_or, length, subst, sym, ◌∙◌}
use Rattle.cs_entries.specs.declared.node.Node.{Node}
use Rattle.cs_tree_model.specs.declared.mode.TheConstants.{DMDIR}
use Rattle.cs_tree_model.specs.declared.record.Record.{Record}
use Rattle.cs_tree_model.specs.Fresh.{fresh_record}
use Rattle.cs_apm.specs.Owners.{directory_left, owner_left}
use Rattle.cs_apm.specs.Slots.{IsKnown}
use Rattle.cs_apm.specs.States.{no_rights, record_of, record_with, start_state, state_of}
use Rattle.cs_apm.proofs.Folding.{if_ok}
use Rattle.cs_apm.proofs.Recording.{directory_record, file_record}
use Rattle.cs_apm.proofs.making.record_at.Goals as goal

pub returns-in-Directory : goal.returns-in-Directory
returns-in-Directory c =
    let t = c.args.trace.now in
    let ops = c.args.ops.now in
    let places = c.args.places.now in
    let all = c.args.tables.now.directories.items in
    let d = c.in-Directory.directory in
    let rights = c.directory_left-rights.result.now in
    let low : d < length all =
    subst (λ (node : Node). IsKnown (length all) (length c.args.tables.now.owners.items) (Some node)) c.in-Directory.is c.requires.known in
    let has = c.directory_left-rights.ensures ∙ ap (λ ds. directory_left d (get_or ds d no_rights) ops places) c.deref.ensures.value in
    subst (λ (node : Node). IfOk c.record_with.result
    (λ made. made ≡ fresh_record c.args.number (record_of (state_of (start_state t) ops places) node)))
    (sym c.in-Directory.is)
    (if_ok {P = λ (made : Record). made ≡ fresh_record c.args.number (record_with rights DMDIR c.directory.result)} c.record_with.result
    (λ made is. directory_record t ops places c.args.number d all rights made c.requires.files.directories low has
    (is ∙ ap (λ content. fresh_record c.args.number (record_with rights DMDIR content)) c.directory.ensures))
    c.record_with.ensures)

pub returns-in_ok-bytes-in-File : goal.returns-in_ok-bytes-in-File
returns-in_ok-bytes-in-File c =
    let t = c.args.trace.now in
    let ops = c.args.ops.now in
    let places = c.args.places.now in
    let all = c.args.tables.now.owners.items in
    let file = c.in-File.file in
    let rights = c.owner_left-owner.result.now in
    let low : file < length all =
    subst (λ (node : Node). IsKnown (length c.args.tables.now.directories.items) (length all) (Some node)) c.in-File.is c.requires.known in
    let has = c.owner_left-owner.ensures ∙ ap (λ os. owner_left file (get_or os file no_rights) ops places) c.deref-in-File-4.ensures.value
    in
    subst (λ (node : Node). IfOk c.record_with-in-File.result
    (λ made. made ≡ fresh_record c.args.number (record_of (state_of (start_state t) ops places) node)))
    (sym c.in-File.is)
    (if_ok {P = λ (made : Record). made ≡ fresh_record c.args.number (record_with rights c.kind_bit.result c.file.result)}
    c.record_with-in-File.result
    (λ made is. file_record t ops places c.args.number c.in-File.kind file all rights c.in_ok-bytes-in-File.bytes.items made
    c.requires.files.owners low
    has c.in_ok-bytes-in-File.ensures
    (is ∙ (λ i. fresh_record c.args.number (record_with rights (c.kind_bit.ensures i) (c.file.ensures i)))))
    c.record_with-in-File.ensures)
