use Rattle.std.proofs.Common.{map, ap, ◌∙◌}
use Rattle.cs_trace.specs.Earlier.Same.{operation_before, version_before}
use Rattle.cs_trace.specs.Operations.{FileSystem}
use Rattle.cs_trace.specs.Traces.{start_sizes, start_table}
use Rattle.cs_micro.specs.Earlier.MicroOperations as before
use Rattle.cs_micro.specs.Earlier.SyncPoints as before_syncs
use Rattle.cs_micro.proofs.Earlier.{block_before, early_ops, early_syncs, starts_before}
use Rattle.cs_micro.proofs.laws.earlier_versions_break_up_as_before.Goals as goal

pub returns : goal.returns
returns c =
    let t = c.args.trace.now in
    let given = c.operations.ensures in
    let fs : FileSystem = record { entries = start_table t; sizes = start_sizes t; homes = given.legal.homes } in
    let block = block_before t.version c.requires in
    let ops = map operation_before t.operations in
    let same_ops = early_ops t.version c.requires fs t.operations given.tree given.legal.legal
    ∙ ap (λ b. before.micro_operations_of b ops) block in
    let same_syncs = early_syncs t.version c.requires fs t.operations given.tree given.legal.legal
    ∙ ap (λ b. before_syncs.sync_points_of b ops) block
    in
    let same_starts = starts_before t.files t.links in
    λ i. record { ops = same_ops i; syncs = same_syncs i; starts = same_starts i; version = version_before t.version }
