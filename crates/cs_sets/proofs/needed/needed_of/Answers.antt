use Rattle.std.proofs.Common.{length, sym, ap, ◌∙◌, ◌+◌, ◌<◌, subst, ltb, ◌&&◌, length-append, ◌∷◌, []}
use Rattle.cs_sets.specs.Rows.{bit_in}
use Rattle.cs_sets.proofs.Needing.{pushed_row}
use Rattle.cs_sets.proofs.needed.needed_of.Goals as goal

pub loop-place-preserved : goal.loop-place-preserved
loop-place-preserved c =
    let rows = c.args.rows.now in
    let old = c.loop-place.needed.items in
    let inv = c.loop-place.invariant in
    let row = c.needed_row.result in
    let e = c.in_ok-push.ensures.items in
    record {
      long = ap length e ∙ length-append old (row ∷ []) ∙ ap (λ v. v + 1) inv.long;
      each = λ i j low. pushed_row old c.push.new.self.items row 0 (λ i j. ltb j (length rows) && bit_in rows i j) e
          (λ a b l. inv.each a b (subst (λ v. a < v) inv.long l))
          (λ b. c.needed_row.ensures b ∙ ap (λ v. ltb b (length rows) && bit_in rows v b) (sym inv.long))
          i j (subst (λ v. i < v + 1) (sym inv.long) low);
    }
