use Rattle.std.proofs.Common.{ap, arith, sym, ◌∙◌}
use Rattle.cs_apm.specs.Rules.{has_to_log, is_of_all, op_at}
use Rattle.cs_apm.proofs.Logging.{forces_found, forces_not, logs_none}
use Rattle.cs_apm.proofs.logs.forces_log.Goals as goal

pub returns-then-has_to_log : goal.returns-then-has_to_log
returns-then-has_to_log c =
    let s = c.args.sync.now in
    sym (forces_found c.args.ops.now c.args.from s c.loop-place.place (omega arith) (omega arith)
    (ap (has_to_log s.covers) (sym c.op_at.ensures) ∙ sym c.has_to_log.ensures ∙ c.if-has_to_log.true))

pub loop-place-preserved : goal.loop-place-preserved
loop-place-preserved c =
    let s = c.args.sync.now in
    logs_none c.args.ops.now c.args.from s c.loop-place.place c.loop-place.invariant
    (ap (has_to_log s.covers) (sym c.op_at.ensures) ∙ sym c.has_to_log.ensures ∙ c.if-has_to_log.false)

pub returns : goal.returns
returns c =
    let s = c.args.sync.now in
    sym (forces_not c.args.ops.now c.args.from s (sym c.is_of_all.ensures ∙ c.if-is_of_all.false)
    (λ k low high. c.loop-place.invariant k low (omega (arith, high))))
