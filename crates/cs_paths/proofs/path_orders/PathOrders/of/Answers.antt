use Rattle.std.proofs.Common.{◌<◌, ℕ, List, IfSome, length, sym, ap, ◌∙◌, subst}
use Rattle.cs_micro.specs.declared.micro_op.MicroOp.{MicroOp}
use Rattle.cs_apm.specs.Rules.{op_at}
use Rattle.cs_paths.specs.PathOrders.{ArePositions, moved_directory, positions_of}
use Rattle.cs_paths.proofs.Laws.{positions_there}
use Rattle.cs_paths.proofs.Steps.{steps_long}
use Rattle.cs_paths.proofs.Tabled.{known_moves}
use Rattle.cs_paths.proofs.path_orders.PathOrders.of.Goals as goal

pub orders_of-requires-clause-steps : goal.orders_of-requires-clause-steps
orders_of-requires-clause-steps c =
    let tables = c.args.tables.now in
    steps_long tables.entries.items c.args.micros.now.ops tables.steps.items c.requires.steps
    ∙ ap length (sym c.ops-ops.ensures.value)

pub orders_of-requires-clause-inside : goal.orders_of-requires-clause-inside
orders_of-requires-clause-inside c =
    let tables = c.args.tables.now in
    let entries = length tables.entries.items in
    let directories = length tables.directories.items in
    subst (λ (os : List MicroOp). (t : ℕ) → ArePositions entries directories (positions_of os tables t))
    (sym c.ops-ops.ensures.value)
    (positions_there c.args.trace.now c.args.micros.now tables c.requires)

pub orders_of-requires-clause-known : goal.orders_of-requires-clause-known
orders_of-requires-clause-known c =
    let tables = c.args.tables.now in
    let directories = length tables.directories.items in
    subst (λ (os : List MicroOp). (k : ℕ) → k < length os → IfSome (moved_directory (op_at os k)) (λ d. d < directories))
    (sym c.ops-ops.ensures.value)
    (known_moves c.args.trace.now c.args.micros.now tables c.requires)
