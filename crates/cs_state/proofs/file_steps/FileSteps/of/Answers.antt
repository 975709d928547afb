use Rattle.std.proofs.Common.{◌≡◌, ℕ, ◌<◌, List, None, Some, sym, ◌∙◌, subst, length}
use Rattle.std.proofs.lemmas.List.{get_or_default}
use Rattle.std.specs.BTreeMap.{get}
use Rattle.std.specs.List.{All}
use Rattle.std.specs.Ordering.{nat_cmp}
use Rattle.cs_micro.specs.declared.micro_op.MicroOp.{MicroOp}
use Rattle.cs_apm.specs.Contents.{changes_file}
use Rattle.cs_apm.specs.Rules.{op_at}
use Rattle.cs_state.specs.Shares.{numbers_that_pass}
use Rattle.cs_state.specs.Steps.{places_reaching, HasRow}
use Rattle.cs_state.proofs.Pages.{rows_are}
use Rattle.cs_paths.proofs.Listing.{ids_are}
use Rattle.cs_state.proofs.file_steps.FileSteps.of.Goals as goal

places_inside : (n : ℕ) (ops : List MicroOp) (places : List ℕ) → places ≡ numbers_that_pass (λ k. changes_file n (op_at ops k)) (length ops)
    → All (λ place. place < length ops) places
places_inside n ops places is =
    let test : ℕ → _ = λ k. changes_file n (op_at ops k) in
    subst (All (λ place. place < length ops)) (sym is)
    (λ k d low. subst (λ v. v < length ops) (get_or_default (numbers_that_pass test (length ops)) k 0 d low)
    (ids_are test (length ops) k low).0)

pub places_reaching-requires-clause-inside : goal.places_reaching-requires-clause-inside
places_reaching-requires-clause-inside c =
    places_inside c.args.file c.args.ops.now c.deref-2.result.now (c.deref-2.ensures.value ∙ c.in_ok-places.ensures)

pub page_rows-requires-clause-inside : goal.page_rows-requires-clause-inside
page_rows-requires-clause-inside c =
    places_inside c.args.file c.args.ops.now c.deref-4.result.now (c.deref-4.ensures.value ∙ c.in_ok-places.ensures)

pub returns : goal.returns
returns c =
    let ops = c.args.ops.now in
    let rows = get nat_cmp c.in_ok-pages.pages in
    let s1 = c.deref.ensures.value in
    let p1 = c.deref-2.ensures.value ∙ c.in_ok-places.ensures in
    let s2 = c.deref-3.ensures.value in
    let p2 = c.deref-4.ensures.value ∙ c.in_ok-places.ensures in
    record {
      sizes = c.in_ok-size_changes.ensures;
      rows = rows_are c.args.file c.args.start ops c.in_ok-sizes.sizes.items c.in_ok-sizes.ensures.each rows
          (subst (All (λ k. HasRow rows (op_at ops k))) p2 c.in_ok-pages.ensures.written)
          (λ page row there. c.in_ok-pages.ensures.each page row there ∙ (λ i. places_reaching (s2 i) ops (p2 i) (Some page)))
          c.in_ok-cuts.cuts.items (c.in_ok-cuts.ensures ∙ (λ i. places_reaching (s1 i) ops (p1 i) None));
    }
