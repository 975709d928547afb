use Rattle.std.proofs.Common.{◌≡◌, ◌++◌, ap, sym, refl, ◌∙◌, length, arith}
use Rattle.cs_micro.specs.MicroOperations.{micros_of}
use Rattle.cs_micro.specs.SyncPoints.{points_after}
use Rattle.cs_micro.proofs.Counted.{micros_more, micros_none, micros_within}
use Rattle.cs_micro.proofs.Points.{points_all, points_below, points_more, points_none, points_within}
use Rattle.cs_micro.proofs.breaking.micros_and_syncs.Goals as goal

pub loop-operation-init : goal.loop-operation-init
loop-operation-init c = record {
  ops = c.new-ops.ensures.items ∙ sym (micros_none c.args.version);
  syncs = c.new-syncs.ensures.items ∙ sym (points_none c.args.version c.args.operations.now);
}

pub loop-operation-preserved : goal.loop-operation-preserved
loop-operation-preserved c =
    let all = c.args.operations.now in
    let version = c.args.version in
    let i = c.loop-operation.operation-index in
    let operation = c.operation-item.result in
    let low = c.loop-operation-test.true in
    let counted : c.len.result ≡ length c.loop-operation.ops.items = omega (arith, c.len.ensures) in
    record {
      ops = c.in_ok-push_micros.ensures.value ∙ ap (λ v. v ++ micros_of version operation) c.loop-operation.invariant.ops ∙ sym
          (micros_more version all i operation low c.operation-item.is);
      syncs =
          c.in_ok-push_sync.ensures.value ∙ ap (λ v. v ++ points_after c.len.result operation) c.loop-operation.invariant.syncs
          ∙ ap (λ n. points_below version all i ++ points_after n operation) (counted ∙ ap length c.loop-operation.invariant.ops)
          ∙ sym (points_more version all i operation low c.operation-item.is);
    }

pub returns-clause-syncs : goal.returns-clause-syncs
returns-clause-syncs c =
    c.loop-operation.invariant.syncs ∙ points_all c.args.version c.args.operations.now c.loop-operation.operation-index
    (omega (arith, c.loop-operation-test.false, c.loop-operation.auto.operation-index-end))

pub returns-in_err-push_sync-clause-memory : goal.returns-in_err-push_sync-clause-memory
returns-in_err-push_sync-clause-memory c refused =
    let all = c.args.operations.now in
    let version = c.args.version in
    let i = c.loop-operation.operation-index in
    let operation = c.operation-item.result in
    let counted : c.len.result ≡ length c.loop-operation.ops.items = omega (arith, c.len.ensures) in
    let same = ap (λ n. length (points_after n operation)) (counted ∙ ap length c.loop-operation.invariant.ops) in
    omega (
      arith,
      c.in_err-push_sync.ensures.memory refl,
      same,
      points_within version all i operation c.loop-operation-test.true
          c.operation-item.is,
    )

pub returns-in_err-push_micros-clause-memory : goal.returns-in_err-push_micros-clause-memory
returns-in_err-push_micros-clause-memory c refused =
    omega (
      arith,
      c.in_err-push_micros.ensures.memory refl,
      micros_within c.args.version c.args.operations.now
          c.loop-operation.operation-index c.operation-item.result c.loop-operation-test.true c.operation-item.is,
    )
