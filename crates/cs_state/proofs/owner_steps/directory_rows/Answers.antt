use Rattle.std.proofs.Common.{arith}
use Rattle.std.specs.BTreeMap.{get}
use Rattle.std.specs.Ordering.{nat_cmp}
use Rattle.cs_state.proofs.Setting.{directory_rows_are}
use Rattle.cs_state.proofs.owner_steps.directory_rows.Goals as goal

pub returns : goal.returns
returns c = directory_rows_are c.args.ops.now (get nat_cmp c.loop-op.rows) c.loop-op.invariant.each
    (λ k low. c.loop-op.invariant.set k (omega (arith, low, c.loop-op-test.false)))
