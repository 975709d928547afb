use Rattle.std.proofs.Common.{◌≡◌, ◌<◌, ◌++◌, ◌∷◌, [], length, map, take, get_or, ap, sym, ◌∙◌, arith}
use Rattle.std.proofs.lemmas.List.{map-append, take_all, take_more}
use Rattle.cs_tree_model.specs.declared.record.Record.{Record}
use Rattle.cs_tree_model.specs.Tree.{Path}
use Rattle.cs_apm.specs.States.{no_record}
use Rattle.cs_apm.proofs.Fields.{read_at}
use Rattle.cs_apm.proofs.homes.paths_of.Goals as goal

pub loop-place-preserved : goal.loop-place-preserved
loop-place-preserved c =
    let records = c.args.records.now in
    let k = c.loop-place.place in
    let path = c.in_ok-path_of.field-0 in
    let low : k < length records = omega arith in
    let named : (get_or records k no_record).0 ≡ path =
    read_at (λ (e : Path × Record). e.0) records k no_record path low c.in_ok-path_of.ensures in
    c.in_ok-push.ensures.items
    ∙ (λ i. c.loop-place.invariant i ++ sym named i ∷ [])
    ∙ sym (map-append (λ (e : Path × Record). e.0) (take k records) (get_or records k no_record ∷ []))
    ∙ ap (map (λ (e : Path × Record). e.0)) (sym (take_more records k no_record low))

pub returns : goal.returns
returns c =
    c.loop-place.invariant
    ∙ ap (map (λ (e : Path × Record). e.0)) (take_all c.loop-place.place c.args.records.now (omega arith))
