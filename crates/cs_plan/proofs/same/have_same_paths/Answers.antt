use Rattle.std.proofs.Common.{◌≡◌, ◌<◌, ℕ, List, Some, ap, refl, sym, unwrap_or, ◌∙◌, length}
use Rattle.std.proofs.lemmas.Bool.{false≢true}
use Rattle.std.proofs.lemmas.List.{take_more_same}
use Rattle.std.proofs.lemmas.Option.{get_or_from_slice_get, slice_get_within}
use Rattle.std.specs.Option.{option_map}
use Rattle.std.specs.Prelude.{slice_get}
use Rattle.cs_tree_model.specs.Tree.{Path}
use Rattle.cs_trace.specs.Traces.{path_at}
use Rattle.cs_micro.proofs.Linking.{slice_get-path_at}
use Rattle.cs_plan.proofs.same.have_same_paths.Goals as goal

-- what the list lent has at a place
lent_at : {X : Type 0} (lent es : List (Path × X)) (place : ℕ) → lent ≡ es → place < length es
    → option_map (λ e. e.0) (slice_get lent place) ≡ Some (path_at es place)
lent_at lent es place is low = ap (λ rs. option_map (λ e. e.0) (slice_get rs place)) is ∙ slice_get-path_at es place low

pub loop-file-preserved : goal.loop-file-preserved
loop-file-preserved c =
    let t = c.args.trace.now in
    let o = c.args.other.now in
    let k = c.loop-file.file in
    let place = c.in-Some-Some.place in
    let beside = c.in-Some-Some.beside in
    let path = path_at t.records place in
    let other = path_at o.records beside in
    let at : slice_get t.files k ≡ Some path = sym c.in-Some-Some.ensures.value in
    let beside_at : slice_get o.files k ≡ Some other = sym c.in-Some-Some.ensures'.value in
    let same : path ≡ other =
    ap (λ v. unwrap_or v path)
    (sym (lent_at c.records.result.now t.records place c.records.ensures.value c.in-Some-Some.ensures.inside)
    ∙ c.if-not-is_same_path.ensures.0 refl
    ∙ lent_at c.records-in-loop-file.result.now o.records beside c.records-in-loop-file.ensures.value c.in-Some-Some.ensures'.inside) in
    take_more_same t.files o.files k path (slice_get_within t.files k path at) (slice_get_within o.files k other beside_at)
    c.loop-file.invariant
    (get_or_from_slice_get t.files k path path at ∙ same ∙ sym (get_or_from_slice_get o.files k other path beside_at))

pub returns-then-not-is_same_path : goal.returns-then-not-is_same_path
returns-then-not-is_same_path c =
    let t = c.args.trace.now in
    let o = c.args.other.now in
    let at = lent_at c.records.result.now t.records c.in-Some-Some.place c.records.ensures.value c.in-Some-Some.ensures.inside in
    let beside_at =
    lent_at c.records-in-loop-file.result.now o.records c.in-Some-Some.beside c.records-in-loop-file.ensures.value
    c.in-Some-Some.ensures'.inside in (
      λ yes. absurd (false≢true yes),
      λ same. c.if-not-is_same_path.ensures.1
          (at ∙ c.in-Some-Some.ensures.value ∙ ap (λ files. slice_get files c.loop-file.file) same ∙ sym c.in-Some-Some.ensures'.value
          ∙ sym beside_at),
    )
