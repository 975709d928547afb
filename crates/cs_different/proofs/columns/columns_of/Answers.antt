use Rattle.std.proofs.Common.{length, sym, ap, ◌∙◌, ◌+◌, ◌<◌, subst, ltb, ◌&&◌, length-append, ◌∷◌, []}
use Rattle.cs_sets.specs.Chains.{by_chain}
use Rattle.cs_sets.specs.Orders.{needs_in}
use Rattle.cs_different.proofs.Rows.{pushed_row}
use Rattle.cs_different.proofs.columns.columns_of.Goals as goal

pub loop-place-preserved : goal.loop-place-preserved
loop-place-preserved c =
    let order = c.args.order.now in
    let old = c.loop-place.columns.items in
    let inv = c.loop-place.invariant in
    let row = c.column_of.result in
    let e = c.in_ok-push.ensures.items in
    record {
      long = ap length e ∙ length-append old (row ∷ []) ∙ ap (λ v. v + 1) inv.long;
      each = λ i j low. pushed_row old c.push.new.self.items row 0 (λ i j. ltb j (length order) && by_chain (needs_in order) i j) e
          (λ a b l. inv.each a b (subst (λ v. a < v) inv.long l))
          (λ b. c.column_of.ensures b ∙ ap (λ v. ltb b (length order) && by_chain (needs_in order) v b) (sym inv.long))
          i j (subst (λ v. i < v + 1) (sym inv.long) low);
    }
