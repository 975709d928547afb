use Rattle.std.proofs.Common.{refl, subst, sym}
use Rattle.cs_trace.specs.Kept.{state_of}
use Rattle.cs_trace.specs.Traces.{IsTrace}
use Rattle.cs_trace.proofs.Places.{same-trace}
use Rattle.cs_trace.proofs.trace.trace_of_state.Goals as goal

pub invariant_of-result : goal.invariant_of-result
invariant_of-result c =
    let made = c.in_ok-lists.ensures in
    let lists = c.in_ok-lists.lists in
    subst IsTrace (sym (same-trace (state_of c.args.state) c.args.state.file_count refl c.requires lists.records lists.nodes.items
    lists.places.items made.records made.nodes made.places)) c.requires

pub returns : goal.returns
returns c =
    let made = c.in_ok-lists.ensures in
    let lists = c.in_ok-lists.lists in
    same-trace (state_of c.args.state) c.args.state.file_count refl c.requires lists.records lists.nodes.items lists.places.items
    made.records made.nodes made.places
