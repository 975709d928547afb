use Rattle.std.proofs.Common.{arith, subst, sym, ◌∙◌, ◌+◌}
use Rattle.cs_apm.specs.Rules as rules
use Rattle.cs_apm.proofs.Filling.{IsFilled, filled_none, filled_set, filled_skip, filled_all}
use Rattle.cs_apm.proofs.rows.row_of.Goals.{then-needs_earlier, else-needs_earlier}
use Rattle.cs_apm.proofs.rows.row_of.Goals as goal

pub loop-i-init : goal.loop-i-init
loop-i-init c = filled_none (rules.needs c.args.ops.now c.args.syncs.now c.args.version c.args.profile) c.args.j c.empty-row.result
    c.empty-row.ensures

pub loop-i-preserved : goal.loop-i-preserved
loop-i-preserved c =
    let need = rules.needs c.args.ops.now c.args.syncs.now c.args.version c.args.profile in
    elim c.if-needs_earlier.branch [
      | then-needs_earlier w ↦ subst (λ r. IsFilled need c.args.j r (c.loop-i.i + 1)) (sym w.row-is)
          (filled_set need c.args.j c.loop-i.row w.set.new.self c.loop-i.i (sym c.needs_earlier.ensures ∙ w.if-needs_earlier.true)
          w.set.ensures c.loop-i.invariant)
      | else-needs_earlier w ↦ subst (λ r. IsFilled need c.args.j r (c.loop-i.i + 1)) (sym w.row-is)
          (filled_skip need c.args.j c.loop-i.row c.loop-i.i (sym c.needs_earlier.ensures ∙ w.if-needs_earlier.false) c.loop-i.invariant)
    ]

pub returns : goal.returns
returns c = filled_all c.args.ops.now c.args.syncs.now c.args.version c.args.profile c.args.j c.loop-i.row
    (subst (λ w. IsFilled (rules.needs c.args.ops.now c.args.syncs.now c.args.version c.args.profile) c.args.j c.loop-i.row w) (omega arith)
    c.loop-i.invariant)
