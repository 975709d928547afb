use Rattle.std.proofs.Common.{arith, subst, sym, ◌∙◌, get_or, ◌+◌, []}
use Rattle.cs_sets.specs.Rows.{bit_in}
use Rattle.cs_sets.proofs.Reaching.{IsPart, row_at, part_takes, part_passes, part_whole}
use Rattle.cs_sets.proofs.reach.reach_row.Goals.{then-has_place, else-has_place}
use Rattle.cs_sets.proofs.reach.reach_row.Goals as goal

pub loop-m-init : goal.loop-m-init
loop-m-init c = c.empty-row.ensures

pub loop-m-preserved : goal.loop-m-preserved
loop-m-preserved c =
    let needs = bit_in c.args.rows.now in
    let k = c.args.k in
    let m = c.loop-m.m in
    let is = row_at c.args.rows.now k m (record { words = [] }) c.requires.inside in
    elim c.if-has_place.branch [
      | then-has_place w ↦ subst (λ r. IsPart needs r k (m + 1)) (sym w.row-is)
          (part_takes needs c.loop-m.row w.set.new.self w.join.new.self (get_or c.args.reach.now m (record { words = [] })) k m
          (is ∙ (sym c.has_place.ensures ∙ w.if-has_place.true)) w.set.ensures w.join.ensures
          (λ i. sym (row_at c.args.reach.now m i (record { words = [] }) (omega arith)) ∙ c.requires.reached m i c.loop-m-test.true)
          c.loop-m.invariant)
      | else-has_place w ↦ subst (λ r. IsPart needs r k (m + 1)) (sym w.row-is)
          (part_passes needs c.loop-m.row k m (is ∙ (sym c.has_place.ensures ∙ w.if-has_place.false)) c.loop-m.invariant)
    ]

pub returns : goal.returns
returns c = part_whole (bit_in c.args.rows.now) c.loop-m.row c.args.k
    (subst (λ m. IsPart (bit_in c.args.rows.now) c.loop-m.row c.args.k m) (omega arith) c.loop-m.invariant)
