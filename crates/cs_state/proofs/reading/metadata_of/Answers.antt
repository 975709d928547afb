use Rattle.std.proofs.Common.{◌≡◌, sym, ap, ◌∙◌, length}
use Rattle.cs_entries.specs.declared.node.Node.{Node}
use Rattle.cs_start.specs.declared.rights.Rights.{Rights}
use Rattle.cs_tree_model.specs.declared.mode.TheConstants.{DMDIR}
use Rattle.cs_tree_model.specs.declared.record.Kind.TheVariants as kinds
use Rattle.cs_tree_model.specs.Fresh.{fresh_record}
use Rattle.cs_tree_model.specs.Record.{metadata_of}
use Rattle.cs_apm.specs.Atlases.{directories_left, files_left, owners_left}
use Rattle.cs_apm.specs.States.{Content, kind_bit}
use Rattle.cs_state.specs.Parts.{file_in, record_in, unchanged_metadata}
use Rattle.cs_state.specs.Steps.{members_in}
use Rattle.cs_state.proofs.Showing.{visible_long}
use Rattle.cs_state.proofs.reading.metadata_of.Goals as goal

pub returns-in-Directory : goal.returns-in-Directory
unfolding directories_left
returns-in-Directory c =
    c.unchanged_metadata.ensures
    ∙ ap (λ (r : Rights). unchanged_metadata c.args.number r DMDIR kinds.Directory) c.directory_owner_of-owner.ensures
    ∙ ap (λ (node : Node). metadata_of (fresh_record c.args.number (record_in c.args.parts.now (members_in c.args.members.now) node)))
    (sym c.in-Directory.is)

pub returns-in-File : goal.returns-in-File
unfolding owners_left files_left
returns-in-File c =
    let places = members_in c.args.members.now in
    let f : Content = file_in c.args.parts.now places c.in-File.file in
    let long : c.file_size-length.result ≡ length _ = c.file_size-length.ensures ∙ sym (visible_long f) in
    c.unchanged_metadata-in-File.ensures
    ∙ (λ i. unchanged_metadata c.args.number (c.owner_of-owner.ensures i) (c.kind_bit.ensures i) (kinds.File (long i)))
    ∙ ap (λ (node : Node). metadata_of (fresh_record c.args.number (record_in c.args.parts.now places node))) (sym c.in-File.is)
