use Rattle.std.proofs.Common.{◌≡◌, ◌<◌, ◌++◌, ◌∷◌, [], Some, ap, length, map, subst, sym, ◌∙◌}
use Rattle.std.specs.Option.{option_map}
use Rattle.std.specs.Prelude.{slice_get}
use Rattle.cs_micro.proofs.Linking.{own_more, slice_get-path_at}
use Rattle.cs_micro.proofs.starts.own_paths.Goals as goal

pub loop-file-preserved : goal.loop-file-preserved
loop-file-preserved c =
    let t = c.args.trace.now in
    let place = c.in-Some.place in
    let path = c.in_ok-path.path in
    let at : slice_get t.files c.loop-file.file ≡ Some path =
    sym c.in-Some.ensures.value ∙ sym (slice_get-path_at t.records place c.in-Some.ensures.inside)
    ∙ sym (ap (λ es. option_map (λ e. e.0) (slice_get es place)) c.records.ensures.value) ∙ c.in_ok-path.ensures in
    ap (map (λ paths. paths.items)) c.in_ok-push-2.ensures.items
    ∙ own_more (λ paths. paths.items) c.loop-file.starts.items t.files c.loop-file.file path c.push.new.self at c.loop-file.invariant
    (c.in_ok-push.ensures.items ∙ ap (λ ps. ps ++ path ∷ []) c.new-paths.ensures.items)
