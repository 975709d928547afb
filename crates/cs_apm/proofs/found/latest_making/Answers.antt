use Rattle.std.proofs.Common.{◌+◌, sym, ap, ◌∙◌, subst}
use Rattle.cs_entries.specs.Rules.{makes}
use Rattle.cs_micro.specs.Legal.{entry_op}
use Rattle.cs_apm.specs.Rules.{entry_op_at}
use Rattle.cs_apm.proofs.Finding.{IsLatestSoFar, latest_here, latest_same}
use Rattle.cs_apm.proofs.found.latest_making.Goals.{then-makes, else-makes}
use Rattle.cs_apm.proofs.found.latest_making.Goals as goal

pub loop-k-preserved : goal.loop-k-preserved
loop-k-preserved c =
    let ops = entry_op_at c.args.ops.now in
    let d = c.args.directory in
    let k = c.loop-k.k in
    elim c.if-makes.branch [
      | then-makes w ↦ subst (λ found. IsLatestSoFar ops d found (k + 1)) (sym w.latest-is)
          (latest_here ops d c.loop-k.latest k
          (ap (λ o. makes (entry_op o) d) (sym c.op_at.ensures) ∙ (sym c.makes.ensures ∙ w.if-makes.true)) c.loop-k.invariant)
      | else-makes w ↦ subst (λ found. IsLatestSoFar ops d found (k + 1)) (sym w.latest-is)
          (latest_same ops d c.loop-k.latest k
          (ap (λ o. makes (entry_op o) d) (sym c.op_at.ensures) ∙ (sym c.makes.ensures ∙ w.if-makes.false)) c.loop-k.invariant)
    ]
