use Rattle.std.proofs.Common.{refl, ap, subst, Some}
use Rattle.cs_entries.specs.declared.node.Node.TheVariants.{File}
use Rattle.cs_same_states.specs.Slots.{AreFilesAlike}
use Rattle.cs_same_states.proofs.Keeping.{if_ok_by_all}
use Rattle.cs_same_states.proofs.Settling.{files_same}
use Rattle.cs_same_states.proofs.slots.are_files_alike.Goals as goal

pub returns : goal.returns
returns c =
    let p = c.args.pair.now in
    let kind = c.args.kind in
    let file = c.args.file in
    let other = c.args.other in
    if_ok_by_all c.are_same_files.result (λ same owner bytes known yes.
    subst (λ k. AreFilesAlike p (Some (File kind file)) (Some (File k other))) (c.if-not-is_same_kind.ensures refl)
    (ap Some (files_same p c.requires kind file other (known yes).0 (known yes).1 (owner yes) (bytes yes))))
    c.are_same_files.ensures.owner c.are_same_files.ensures.bytes c.are_same_files.ensures.known
