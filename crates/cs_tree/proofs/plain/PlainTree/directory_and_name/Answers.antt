use Rattle.cs_tree_model.specs.Record.{metadata_of_ref}
use Rattle.cs_tree.proofs.Places.{not_absent, place_found, no_place_in_file, no_place_taken}
use Rattle.cs_tree.proofs.plain.PlainTree.directory_and_name.Goals as goal

pub returns-in_err-record-clause-none : goal.returns-in_err-record-clause-none
returns-in_err-record-clause-none c =
    absurd (not_absent c.args.self.now c.requires c.args.names.now c.in_ok-parents.parents c.in_ok-parents.name.now
    c.in_ok-directory.directory c.in_ok-parents.ensures.0 c.in_ok-directory.ensures c.in_err-record.ensures.value)

pub returns-in_default-clause-none : goal.returns-in_default-clause-none
returns-in_default-clause-none c =
    no_place_in_file c.args.self.now c.requires c.args.names.now c.in_ok-parents.parents c.in_ok-parents.name.now
    c.in_ok-directory.directory c.in_ok-parents.ensures.0 c.in_ok-directory.ensures (metadata_of_ref c.in_ok-record.field-0)
    c.in_ok-record.ensures.value c.in_default.not-Directory

pub returns-in-Some-clause-none : goal.returns-in-Some-clause-none
returns-in-Some-clause-none c =
    no_place_taken c.args.self.now c.requires c.args.names.now c.in_ok-parents.parents c.in_ok-parents.name.now c.in_ok-directory.directory
    c.in_ok-parents.ensures.0 c.in_ok-directory.ensures c.in-Some.field-0 c.in-Some.ensures

pub returns-in-None-clause-found : goal.returns-in-None-clause-found
returns-in-None-clause-found c =
    place_found c.args.self.now c.requires c.args.names.now c.in_ok-parents.parents c.in_ok-parents.name.now c.in_ok-directory.directory
    c.in_ok-parents.ensures.0 c.in_ok-directory.ensures (metadata_of_ref c.in_ok-record.field-0) c.in_ok-record.ensures.value
    c.in-Directory.is c.in-None.ensures
