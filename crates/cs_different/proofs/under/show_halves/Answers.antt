use Rattle.std.proofs.Common.{◌≡◌, ◌+◌, ℕ, true, ◌∙◌, get_or}
use Rattle.cs_sets.specs.Rows.{bit_in}
use Rattle.cs_different.proofs.Shown.{shown_more, shown_still}
use Rattle.cs_different.proofs.under.show_halves.Goals as goal

pub loop-first-preserved : goal.loop-first-preserved
loop-first-preserved c =
    let old = c.loop-first.wanted.items in
    let one = c.show.new.wanted.items in
    let new = c.show-in-loop-first.new.wanted.items in
    let firsts = c.args.firsts.now in
    let i = c.loop-first.first-index in
    let f = get_or firsts i 0 in
    let inv = c.loop-first.invariant in
    let less : (z k : ℕ) → bit_in new z k ≡ true → bit_in old z k ≡ true =
    (λ z k t. c.show.ensures.less z k (c.show-in-loop-first.ensures.less z k t)) in
    record {
      long = c.show-in-loop-first.ensures.long ∙ c.show.ensures.long ∙ inv.long;
      less = λ z k t. inv.less z k (less z k t);
      first = shown_more old new (λ f. f) firsts i c.loop-first-test.true less inv.first
          (λ z. shown_still one new z f (c.show-in-loop-first.ensures.less z f) (c.show.ensures.none z));
      second = shown_more old new (λ f. f + 1) firsts i c.loop-first-test.true less inv.second c.show-in-loop-first.ensures.none;
    }
