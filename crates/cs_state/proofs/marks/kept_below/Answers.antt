use Rattle.std.proofs.Common.{◌≡◌, ℕ, ◌+◌, ◌≤◌, Bool, true, false, cond, [], ◌∷◌, ◌++◌, sym, ap, ◌∙◌, arith, length, get_or, length-append}
use Rattle.std.proofs.Math.Seq.{get_or-append_seam}
use Rattle.std.proofs.lemmas.List.{get_or_append_left}
use Rattle.cs_state.specs.Numbers.{kept_at}
use Rattle.cs_state.specs.Shares.{numbers_that_pass, is_in_every_state}
use Rattle.cs_paths.proofs.Listing.{count_more}
use Rattle.cs_state.proofs.marks.kept_below.Goals as goal
use borrow.Author.Count.{below_more}

one_at_most : (b : Bool) (n : ℕ) → n + cond b 1 0 ≤ n + 1
one_at_most true n = omega arith
one_at_most false n = omega arith

pub loop-id-preserved : goal.loop-id-preserved
loop-id-preserved c =
    let id = c.loop-id.id in
    let f = is_in_every_state c.args.marks.now c.args.slots.now in
    let counts = c.loop-id.counts.items in
    let count = c.loop-id.count in
    let pushed = c.in_ok-push.ensures.items in
    let long = c.loop-id.invariant.long in
    record {
      count = c.count_if-count.ensures ∙ (λ i. c.loop-id.invariant.count i + cond (c.is_kept_id.ensures i) 1 0) ∙ sym (count_more f id);
      few = (let e = c.count_if-count.ensures in let one = one_at_most c.is_kept_id.result count in let few = c.loop-id.invariant.few in
          omega (arith, e, one, few));
      long = ap length pushed ∙ length-append counts (count ∷ []) ∙ ap (λ n. n + 1) long;
      each = below_more (λ k. kept_at c.push.new.self.items k ≡ length (numbers_that_pass f k)) id
          (λ k low. ap (λ xs. kept_at xs k) pushed ∙ get_or_append_left counts (count ∷ []) 0 k (omega (arith, low, long)) ∙
          c.loop-id.invariant.each k low)
          (ap (λ xs. kept_at xs id) pushed ∙ ap (λ n. get_or (counts ++ count ∷ []) n 0) (sym long) ∙ get_or-append_seam counts count [] 0 ∙
          c.loop-id.invariant.count);
    }
