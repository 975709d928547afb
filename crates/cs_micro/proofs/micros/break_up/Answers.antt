use Rattle.std.proofs.Common.{◌≡◌, ◌<◌, ap, arith, length, refl, subst, sym, ◌∙◌}
use Rattle.std.specs.List.{All}
use Rattle.cs_trace.specs.Operations.{FileSystem}
use Rattle.cs_trace.specs.Traces.{start_sizes, start_table}
use Rattle.cs_trace_lines.specs.declared.version.Version.{Version}
use Rattle.cs_micro.specs.Laws.Starts.{length-paths_of_files}
use Rattle.cs_micro.specs.MicroOperations.{IsWithinLimit, micro_operations_of}
use Rattle.cs_micro.specs.Micros.{AreLegalFromStart, micros_in}
use Rattle.cs_micro.specs.SyncPoints.{sync_points_of}
use Rattle.cs_micro.proofs.Legality.{micros_legal}
use Rattle.cs_micro.proofs.Limits.{all_within}
use Rattle.cs_micro.proofs.micros.break_up.Goals as goal

pub has_room-requires : goal.has_room-requires
has_room-requires c =
    let t = c.args.trace.now in
    let lent = c.operations-operations.ensures in
    let fs : FileSystem = record { entries = start_table t; sizes = start_sizes t; homes = lent.legal.homes } in
    let all = subst (All (IsWithinLimit t.version)) (sym lent.value) (all_within t.version fs t.operations lent.legal.legal) in
    subst (λ (v : Version). All (IsWithinLimit v) c.operations-operations.result.now) (sym c.version-version.ensures.value) all

pub micros_and_syncs-requires : goal.micros_and_syncs-requires
micros_and_syncs-requires c =
    let t = c.args.trace.now in
    let lent = c.operations-operations.ensures in
    let fs : FileSystem = record { entries = start_table t; sizes = start_sizes t; homes = lent.legal.homes } in
    let all = subst (All (IsWithinLimit t.version)) (sym lent.value) (all_within t.version fs t.operations lent.legal.legal) in
    subst (λ (v : Version). All (IsWithinLimit v) c.operations-operations.result.now) (sym c.version-version.ensures.value) all

pub returns-in_err-starts-clause-memory : goal.returns-in_err-starts-clause-memory
returns-in_err-starts-clause-memory c refused =
    let t = c.args.trace.now in
    let some : 0 < length t.files = c.in_err-starts.ensures.memory refl in
    let long = length-paths_of_files t.files t.links in
    omega (arith, some, long)

pub returns-clause-legal : goal.returns-clause-legal
returns-clause-legal c =
    let t = c.args.trace.now in
    let lent = c.operations-operations.ensures in
    let version = c.version-version.ensures.value in
    let ops = c.in_ok-ops.ensures.ops ∙ (λ w. micro_operations_of (version w) (lent.value w)) in
    let syncs = c.in_ok-ops.ensures.syncs ∙ (λ w. sync_points_of (version w) (lent.value w)) in
    let starts = c.in_ok-starts.ensures in
    subst (AreLegalFromStart t) (λ i. record { ops = sym ops i; syncs = sym syncs i; starts = sym starts.value i; version = sym version i })
    (micros_legal t lent.legal c.file_count.ensures.small)
