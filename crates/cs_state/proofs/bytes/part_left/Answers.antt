use Rattle.std.proofs.Common.{◌≡◌, ℕ, ◌+◌, ◌<◌, ◌≤◌, ◌*◌, inl, inr, ⊎_elim, ap, ◌∙◌, arith, length, get_or}
use Rattle.std.proofs.lemmas.Bool.{cases_lt}
use Rattle.cs_state.specs.declared.file_steps.TheConstants.{PAGE_BYTES}
use Rattle.cs_state.specs.Steps.{struck_by}
use Rattle.cs_state.specs.Windows.{byte_of, whole_content}
use Rattle.cs_state.proofs.Joining.{rejoined}
use Rattle.cs_state.proofs.bytes.part_left.Goals as goal

pub loop-page-preserved : goal.loop-page-preserved
loop-page-preserved c =
    let b = c.loop-page.page in
    let offset = c.args.offset in
    let new = c.apply_to_page.new.part in
    let old = c.loop-page.part.items in
    let was = c.deref_mut.ensures.value in
    let long : length new ≡ length old = c.apply_to_page.ensures.long ∙ ap length was in
    let all = rejoined 0 c.loop-page.part.len new old c.loop-page.part.ok.0 long in
    let many = c.loop-page.invariant.long in
    let outside : (k : ℕ) → _ → get_or new k 0 ≡ get_or old k 0 =
    λ k apart. c.apply_to_page.ensures.outside k apart ∙ ap (λ xs. get_or xs k 0) was in
    record {
      long = ap length all ∙ long ∙ many;
      done = λ g agrees k low before. ap (λ xs. get_or xs k 0) all ∙ ⊎_elim
          (λ (earlier : offset + k < b * PAGE_BYTES). outside k (inl earlier) ∙ c.loop-page.invariant.done g agrees k low earlier)
          (λ (here : b * PAGE_BYTES ≤ offset + k).
          c.apply_to_page.ensures.inside (whole_content c.args.start.now)
          (λ j l ge less. ap (λ xs. get_or xs j 0) was ∙ c.loop-page.invariant.rest j
          (let same = ap length was in omega (arith, l, same, many)) ge)
          k (omega (arith, low, long, many)) here (omega (arith, before))
          ∙ ap (λ places. byte_of (struck_by c.args.ops.now c.args.members.now (whole_content c.args.start.now) places) (offset + k))
          c.row-row.ensures
          ∙ agrees b (offset + k) here (omega (arith, before)))
          (cases_lt (offset + k) (b * PAGE_BYTES));
      rest = λ k low ge. ap (λ xs. get_or xs k 0) all ∙ outside k (inr (omega (arith, ge))) ∙ c.loop-page.invariant.rest k low
          (omega (arith, ge));
    }
