use Rattle.std.proofs.Common.{◌∷◌, [], ◌++◌, ◌∙◌, ap, sym, take, append_assoc, map}
use Rattle.std.proofs.lemmas.List.{take_more}
use Rattle.std.specs.Prelude.{slice_index_or}
use Rattle.cs_apm.specs.States.{no_record}
use Rattle.cs_apm.specs.States.{directories_made, rights_of}
use Rattle.cs_apm.proofs.Marking.{directories_made-append}
use Rattle.cs_apm.proofs.rights.directories_of.Goals as goal

pub loop-op-preserved : goal.loop-op-preserved
loop-op-preserved c =
    let i = c.loop-op.op-index in
    let o = c.op-item.result in
    let starts = map (λ place. rights_of (slice_index_or c.args.records.now place no_record).1) c.args.places.now in
    let more = take_more c.args.ops.now i o c.loop-op-test.true ∙ ap (λ x. take i c.args.ops.now ++ x ∷ []) (sym c.op-item.is) in
    c.in_ok-push_directory_rights.ensures ∙ ap (λ rights. rights ++ directories_made (o ∷ [])) c.loop-op.invariant ∙ append_assoc starts
    (directories_made (take i c.args.ops.now)) (directories_made (o ∷ []))
    ∙ ap (λ made. starts ++ made) (sym (ap directories_made more ∙ directories_made-append (take i c.args.ops.now) (o ∷ [])))
