use Rattle.std.proofs.Common.{◌<◌, ◌+◌, ◌++◌, ◌∙◌, ℕ, ap, arith, length, map, subst, sym}
use Rattle.std.proofs.lemmas.List.{length-map}
use Rattle.std.specs.FinMap.{entries, len, len-entries}
use Rattle.std.specs.List.{All, slice_index_or}
use Rattle.cs_entries.specs.declared.entry.Entry.{Entry}
use Rattle.cs_trace.specs.Traces.{directory_count, entries_of_paths, paths_of_records}
use Rattle.cs_apm.specs.Atlases.{AreChanged, AreMakings}
use Rattle.cs_apm.specs.Held.{HoldsAll, held_of}
use Rattle.cs_apm.specs.Making.{FindsFiles}
use Rattle.cs_apm.specs.Slots.{AreAscending, AreSteps, Slot}
use Rattle.cs_apm.specs.States.{directories_made, directory_place, no_record, owners_made, rights_of}
use Rattle.cs_apm.proofs.Holding.{entries_ascend}
use Rattle.cs_apm.proofs.Tabling.{is_atlas, places_there, starts_there, touched_there}
use Rattle.cs_apm.proofs.tables.Tables.of.Goals as goal

pub steps_of-requires-clause-short : goal.steps_of-requires-clause-short
steps_of-requires-clause-short c =
    let h = held_of c.in_ok-held.held in
    let few = c.in_ok-held.ensures.few in
    let records_few = c.records-records.ensures.few in
    let ops_few = c.ops-ops.ensures.few in
    let same = ap length c.records-records.ensures.value in
    let long =
    ap length (c.deref.ensures.value ∙ c.in_ok-entries.ensures.entries) ∙ length-map (entries h) (λ (x : Entry × Slot). x.0)
    ∙ sym (len-entries h) in
    omega (arith, few, records_few, ops_few, same, long)

pub steps_of-requires-clause-ascending : goal.steps_of-requires-clause-ascending
steps_of-requires-clause-ascending c =
    subst AreAscending (sym (c.deref.ensures.value ∙ c.in_ok-entries.ensures.entries)) (entries_ascend (held_of c.in_ok-held.held))

pub steps_of-requires-clause-there : goal.steps_of-requires-clause-there
steps_of-requires-clause-there c =
    touched_there (held_of c.in_ok-held.held) c.deref.result.now (c.deref.ensures.value ∙ c.in_ok-entries.ensures.entries)
    c.ops-ops.result.now
    (length c.ops-ops.result.now) c.in_ok-held.ensures.touched

pub owners_of-requires : goal.owners_of-requires
owners_of-requires c =
    let t = c.args.trace.now in
    let starts = c.in_ok-starts.starts.items in
    let finds = subst (λ ns. FindsFiles ns (length ns) starts) c.nodes-nodes.ensures.value c.in_ok-starts.ensures.found in
    subst (λ (n : ℕ). All (λ place. place < n) c.deref-2.result.now) (sym (ap length c.records-records.ensures.value))
    (subst (All (λ place. place < length t.records)) (sym c.deref-2.ensures.value)
    (starts_there t c.nodes-nodes.ensures.each c.records-records.ensures.ascending c.file_count.ensures.numbered c.file_count.ensures.found
    starts
    (c.in_ok-starts.ensures.long ∙ c.file_count.ensures.value) finds))

pub directories_of-requires : goal.directories_of-requires
directories_of-requires c =
    let t = c.args.trace.now in
    let places = c.in_ok-places.places.items in
    let count = c.count_directories.ensures ∙ ap directory_count c.nodes-nodes.ensures.value in
    subst (λ (n : ℕ). All (λ place. place < n) c.deref-3.result.now) (sym (ap length c.records-records.ensures.value))
    (subst (All (λ place. place < length t.records)) (sym c.deref-3.ensures.value)
    (places_there t c.nodes-nodes.ensures.each places (c.in_ok-places.ensures.long ∙ count)
    (λ d low. c.in_ok-places.ensures.each d (subst (λ n. d < n) (sym count) low)
    ∙ ap (λ ns. directory_place ns d) c.nodes-nodes.ensures.value)))

pub returns : goal.returns
returns c =
    let t = c.args.trace.now in
    let m = c.args.micros.now in
    let h = held_of c.in_ok-held.held in
    let records = c.records-records.ensures.value in
    let nodes = c.nodes-nodes.ensures.value in
    let ops = c.ops-ops.ensures.value in
    let starts = c.in_ok-starts.starts.items in
    let places = c.in_ok-places.places.items in
    let count = c.count_directories.ensures ∙ ap directory_count nodes in
    let held_few = c.in_ok-held.ensures.few in
    let records_long = ap length records in
    let ops_long = ap length ops in
    is_atlas t m c.requires.broken c.requires.legal c.operations.ensures.tree c.nodes-nodes.ensures.each c.records-records.ensures.ascending
    c.file_count.ensures.numbered c.file_count.ensures.found starts (c.in_ok-starts.ensures.long ∙ c.file_count.ensures.value)
    (subst (λ ns. FindsFiles ns (length ns) starts) nodes c.in_ok-starts.ensures.found)
    places (c.in_ok-places.ensures.long ∙ count)
    (λ d low. c.in_ok-places.ensures.each d (subst (λ n. d < n) (sym count) low) ∙ ap (λ ns. directory_place ns d) nodes)
    h
    (subst (λ rs. HoldsAll h (entries_of_paths (paths_of_records rs t.nodes))) records
    (subst (λ ns. HoldsAll h (entries_of_paths (paths_of_records c.records-records.result.now ns))) nodes c.in_ok-held.ensures.start))
    (omega (arith, held_few, records_long, ops_long))
    c.in_ok-entries.entries.items c.in_ok-entries.ensures.entries c.in_ok-entries.slots.items c.in_ok-entries.ensures.slots
    c.in_ok-steps.steps.items
    (subst (λ os. AreSteps c.in_ok-entries.entries.items os c.in_ok-steps.steps.items) ops
    (subst (λ es. AreSteps es c.ops-ops.result.now c.in_ok-steps.steps.items) c.deref.ensures.value c.in_ok-steps.ensures))
    c.in_ok-owners.owners.items
    (c.in_ok-owners.ensures
    ∙ (λ i. map (λ place. rights_of (slice_index_or (records i) place no_record).1) (c.deref-2.ensures.value i) ++ owners_made (ops i)))
    c.in_ok-directories.directories.items
    (c.in_ok-directories.ensures
    ∙ (λ i. map (λ place. rights_of (slice_index_or (records i) place no_record).1) (c.deref-3.ensures.value i) ++ directories_made
    (ops i)))
    c.in_ok-makings.makings.items (subst (λ os. AreMakings os c.in_ok-makings.makings.items) ops c.in_ok-makings.ensures)
    c.in_ok-changed.changed.items
    (subst (λ (n : ℕ). AreChanged m.ops n c.in_ok-changed.changed.items) (c.len.ensures ∙ c.in_ok-owners.owners.ok.0)
    (subst (λ os. AreChanged os c.len.result c.in_ok-changed.changed.items) ops c.in_ok-changed.ensures))
