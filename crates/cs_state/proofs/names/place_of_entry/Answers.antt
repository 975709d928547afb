use Rattle.std.proofs.Common.{◌≡◌, ◌≢◌, ◌+◌, ◌<◌, sym, ◌∙◌, arith, rules}
use Rattle.std.proofs.lemmas.Bool.{false≢true}
use Rattle.std.proofs.lemmas.Bool.Decides.{Decides-eqb}
use Rattle.std.proofs.lemmas.List.Sorted.{IsPartitionPoint-from_clause}
use Rattle.std.proofs.lemmas.Slice.Eq.{slice_eq-Decides}
use Rattle.std.specs.Ordering.{is_lt}
use Rattle.cs_entries.specs.declared.entry.Entry.{Entry}
use Rattle.cs_tree_model.specs.Tree.{name_cmp}
use Rattle.cs_apm.specs.Slots.{entry_at}
use Rattle.cs_state.proofs.Running.{found_name, no_name, parted_below, run_long, run_name}
use Rattle.cs_state.proofs.names.place_of_entry.Goals as goal
use Rattle.cs_state.proofs.names.place_of_entry.Goals.{else-place-run-via-then-place-run+else-eq, else-place-run-via-else-place-run}

pub returns-then-eq : goal.returns-then-eq
returns-then-eq c =
    let es = c.args.entries.now in
    let d = c.args.directory in
    let x = c.args.name.now in
    let first = c.range_of-first.result.0 in
    let end = c.range_of-first.result.1 in
    let e = c.range_of-first.ensures in
    let k = c.partition_point-place.result in
    let point =
    IsPartitionPoint-from_clause (λ (f : Entry). is_lt (name_cmp f.name x)) _ _ c.partition_point-place.ensures.partitioned
    (parted_below es c.requires d first end e.order e.within e.before e.of e.behind x) (λ a r q called. search rules) in
    let long = run_long es c.requires d first end e.order e.within e.before e.of e.behind in
    let there = c.if-place-run.true in
    let order = e.order in
    let named = (slice_eq-Decides Decides-eqb c.as_str.result.now x c.eq.result c.eq.ensures).0 c.if-eq.true in
    let is : (entry_at es (first + k)).name ≡ x =
    sym (run_name es c.requires d first end e.order e.within e.before e.of e.behind k c.index-run-place.result (omega (arith, there, long)))
    ∙ sym c.as_str.ensures.value ∙ named in
    sym (found_name es c.requires d first end e.order e.within e.before e.of e.behind x k c.partition_point-place.ensures.bound point
    (omega (arith, there, long, order)) is)

pub returns-else-place-run : goal.returns-else-place-run
returns-else-place-run c =
    let es = c.args.entries.now in
    let d = c.args.directory in
    let x = c.args.name.now in
    let first = c.range_of-first.result.0 in
    let end = c.range_of-first.result.1 in
    let e = c.range_of-first.ensures in
    let k = c.partition_point-place.result in
    let point =
    IsPartitionPoint-from_clause (λ (f : Entry). is_lt (name_cmp f.name x)) _ _ c.partition_point-place.ensures.partitioned
    (parted_below es c.requires d first end e.order e.within e.before e.of e.behind x) (λ a r q called. search rules) in
    let long = run_long es c.requires d first end e.order e.within e.before e.of e.behind in
    let order = e.order in
    let other : first + k < end → (entry_at es (first + k)).name ≢ x =
    elim c.else-place-run.branch [
      | else-place-run-via-then-place-run+else-eq w ↦ λ low is.
          (let there = w.if-place-run.true in
          false≢true (sym w.if-eq.false
          ∙ (slice_eq-Decides Decides-eqb w.as_str.result.now x w.eq.result w.eq.ensures).1
          (w.as_str.ensures.value
          ∙ run_name es c.requires d first end e.order e.within e.before e.of e.behind k w.index-run-place.result
          (omega (arith, there, long)) ∙ is)))
      | else-place-run-via-else-place-run w ↦ λ low is. absurd
          (let past = w.if-place-run.false in omega (arith, past, long, order, low))
    ] in
    sym (no_name es c.requires d first end e.order e.within e.before e.of e.behind x k c.partition_point-place.ensures.bound point other)
