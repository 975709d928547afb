use Rattle.std.proofs.Common.{◌≡◌, Some, length, refl, sym, ap, ◌∙◌, subst, ◌<◌}
use Rattle.std.proofs.lemmas.Option.{slice_get_read}
use Rattle.std.specs.List.{slice_get}
use Rattle.cs_trace.specs.Traces.{Trace, path_at}
use Rattle.cs_trace.proofs.Places.{is_placed, placed_at}
use Rattle.cs_trace.proofs.trace.Trace.file_place.Goals as goal

pub returns-clause-value : goal.returns-clause-value
returns-clause-value c =
    let rs = c.self.inside.records in
    let ps = c.self.inside.places.items in
    let place = c.in_ok-place.field-0.now in
    let placed = c.in_ok-place.ensures.lookup in
    let at : slice_get ps c.args.file ≡ Some place =
    ap (λ xs. slice_get xs c.args.file) (sym c.deref.ensures.value)
    ∙ slice_get_read c.deref.result.now _ c.args.file place refl placed.3.0 placed.1 in
    ap (λ (t : Trace). Some (path_at t.records place)) (sym c.self.view_is)
    ∙ sym (placed_at rs ps c.args.file (Some place) at)
    ∙ ap (λ (t : Trace). slice_get t.files c.args.file) c.self.view_is

pub returns-clause-inside : goal.returns-clause-inside
returns-clause-inside c =
    let rs = c.self.inside.records in
    let ps = c.self.inside.places.items in
    let place = c.in_ok-place.field-0.now in
    let placed = c.in_ok-place.ensures.lookup in
    let at : slice_get ps c.args.file ≡ Some place =
    ap (λ xs. slice_get xs c.args.file) (sym c.deref.ensures.value)
    ∙ slice_get_read c.deref.result.now _ c.args.file place refl placed.3.0 placed.1 in
    subst (λ (t : Trace). place < length t.records) c.self.view_is
    (is_placed rs ps c.args.file _ c.self.invariant refl place at)
