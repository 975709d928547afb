use Rattle.std.proofs.Common.{sym, subst}
use Rattle.std.specs.List.{All}
use Rattle.cs_trace.specs.Operations.{FileSystem}
use Rattle.cs_trace.specs.Traces.{start_sizes, start_table}
use Rattle.cs_trace_lines.specs.declared.version.Version.{Version}
use Rattle.cs_micro.specs.MicroOperations.{IsWithinLimit}
use Rattle.cs_micro.proofs.Limits.{all_within}
use Rattle.cs_list.proofs.lines.lines_of.Goals as goal

pub lines_of_operations-requires-clause-within : goal.lines_of_operations-requires-clause-within
lines_of_operations-requires-clause-within c =
    let t = c.args.trace.now in
    let lent = c.operations.ensures in
    let fs : FileSystem = record { entries = start_table t; sizes = start_sizes t; homes = lent.legal.homes } in
    let all = subst (All (IsWithinLimit t.version)) (sym lent.value) (all_within t.version fs t.operations lent.legal.legal) in
    subst (λ (v : Version). All (IsWithinLimit v) c.operations.result.now) (sym c.version.ensures.value) all
