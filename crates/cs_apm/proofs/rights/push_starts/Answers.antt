use Rattle.std.proofs.Common.{◌≡◌, ℕ, ◌+◌, ◌<◌, [], ◌∷◌, ◌++◌, ap, append_assoc, arith, get_or, length, map, sym, take, ◌∙◌}
use Rattle.std.proofs.lemmas.List.{map-append, take_more}
use Rattle.cs_tree_model.specs.declared.record.Record.{Record}
use Rattle.cs_tree_model.specs.Record.{metadata_of, metadata_of_ref}
use Rattle.cs_tree_model.specs.Tree.{Path}
use Rattle.cs_start.specs.declared.rights.Rights.{Rights}
use Rattle.cs_apm.specs.States.{no_record}
use Rattle.cs_apm.specs.States.{rights_in, rights_of}
use Rattle.cs_apm.proofs.Fields.{read_at}
use Rattle.cs_apm.proofs.rights.push_starts.Goals as goal

pub loop-place-preserved : goal.loop-place-preserved
loop-place-preserved c =
    let records = c.args.records.now in
    let places = c.args.places.now in
    let old = c.args.table.now.items in
    let i = c.loop-place.place-index in
    let place = get_or places i 0 in
    let low : i < length places = omega arith in
    let rights : ℕ → Rights = λ n. rights_of (get_or records n no_record).1 in
    let fields =
    read_at (λ (e : Path × Record). metadata_of e.1) records place no_record (metadata_of_ref c.metadata.result) (c.requires i 0 low)
    c.metadata.ensures in
    let made : c.in_ok-rights.rights ≡ rights place = c.in_ok-rights.ensures ∙ ap rights_in (sym fields) in
    let more : map rights (take i places) ++ rights place ∷ [] ≡ map rights (take (i + 1) places) =
    sym (ap (map rights) (take_more places i 0 low) ∙ map-append rights (take i places) (place ∷ [])) in
    c.in_ok-push.ensures.items ∙ (λ w. c.loop-place.invariant w ++ made w ∷ [])
    ∙ append_assoc old (map rights (take i places)) (rights place ∷ []) ∙ ap (λ rs. old ++ rs) more
