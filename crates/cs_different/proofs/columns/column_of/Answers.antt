use Rattle.std.proofs.Common.{sym, ◌∙◌, ◌≡◌, ◌+◌, subst, ltb, ◌&&◌, ℕ}
use Rattle.cs_sets.specs.Bits.{has_place}
use Rattle.cs_sets.specs.Chains.{by_chain}
use Rattle.cs_sets.specs.Orders.{needs_in}
use Rattle.cs_different.proofs.Rows.{takes_row, passes_row}
use Rattle.cs_different.proofs.columns.column_of.Goals.{then-needs_by_chain, else-needs_by_chain}
use Rattle.cs_different.proofs.columns.column_of.Goals as goal

pub loop-j-preserved : goal.loop-j-preserved
loop-j-preserved c =
    let p = by_chain (needs_in c.args.order.now) c.args.place in
    let j = c.loop-j.j in
    elim c.if-needs_by_chain.branch [
      | then-needs_by_chain w ↦ subst (λ r. (k : ℕ) → has_place r k ≡ (ltb k (j + 1) && p k)) (sym w.column-is)
          (takes_row c.loop-j.column w.set.new.self j p (sym c.needs_by_chain.ensures ∙ w.if-needs_by_chain.true) w.set.ensures
          c.loop-j.invariant)
      | else-needs_by_chain w ↦ subst (λ r. (k : ℕ) → has_place r k ≡ (ltb k (j + 1) && p k)) (sym w.column-is)
          (passes_row c.loop-j.column j p (sym c.needs_by_chain.ensures ∙ w.if-needs_by_chain.false) c.loop-j.invariant)
    ]
