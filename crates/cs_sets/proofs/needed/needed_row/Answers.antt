use Rattle.std.proofs.Common.{sym, ◌∙◌, ◌≡◌, ◌+◌, subst, ltb, ◌&&◌, ℕ, []}
use Rattle.cs_sets.specs.Bits.{has_place}
use Rattle.cs_sets.specs.Rows.{bit_in}
use Rattle.cs_sets.proofs.Needing.{bit_read, takes_row, passes_row}
use Rattle.cs_sets.proofs.needed.needed_row.Goals.{then-has_place, else-has_place}
use Rattle.cs_sets.proofs.needed.needed_row.Goals as goal

pub loop-j-preserved : goal.loop-j-preserved
loop-j-preserved c =
    let p = bit_in c.args.rows.now c.args.place in
    let j = c.loop-j.j in
    let is = bit_read c.args.rows.now c.args.place j (record { words = [] }) c.loop-j-test.true in
    elim c.if-has_place.branch [
      | then-has_place w ↦ subst (λ r. (k : ℕ) → has_place r k ≡ (ltb k (j + 1) && p k)) (sym w.needed-is)
          (takes_row c.loop-j.needed w.set.new.self j p (is ∙ sym c.has_place.ensures ∙ w.if-has_place.true) w.set.ensures
          c.loop-j.invariant)
      | else-has_place w ↦ subst (λ r. (k : ℕ) → has_place r k ≡ (ltb k (j + 1) && p k)) (sym w.needed-is)
          (passes_row c.loop-j.needed j p (is ∙ sym c.has_place.ensures ∙ w.if-has_place.false) c.loop-j.invariant)
    ]
