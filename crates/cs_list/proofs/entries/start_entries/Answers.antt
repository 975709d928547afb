use Rattle.std.proofs.Common.{◌≡◌, ◌∙◌, List, ap, subst, sym}
use Rattle.std.proofs.lemmas.Result.{IfOk-weaker}
use Rattle.cs_entries.specs.declared.entry.Entry.{Entry}
use Rattle.cs_micro.proofs.Legality.{micros_legal}
use Rattle.cs_micro.specs.Micros.{AreLegalFromStart, micros_in}
use Rattle.cs_trace.specs.Traces.{start_table}
use Rattle.cs_apm.specs.Slots.{Mirror, Slot}
use Rattle.cs_list.proofs.Slots.{same_table}
use Rattle.cs_list.proofs.entries.start_entries.Goals as goal

pub of-requires-clause-legal : goal.of-requires-clause-legal
of-requires-clause-legal c =
    let t = c.trace-trace.result.now in
    subst (AreLegalFromStart t) (ap micros_in c.trace-trace.ensures ∙ sym c.micros.ensures)
    (micros_legal t c.operations.ensures.legal c.file_count.ensures.small)

pub returns : goal.returns
returns c =
    let tables = c.in_ok-tables.tables in
    IfOk-weaker c.entries_of_slots.result (Mirror c.deref.result.now c.deref-2.result.now)
    (λ held. held ≡ start_table c.args.scene.now.trace)
    (λ held is.
    (let slots = subst (λ (ss : List Slot). Mirror c.deref.result.now ss held) c.deref-2.ensures.value is in
    let both = subst (λ (es : List Entry). Mirror es tables.slots.items held) c.deref.ensures.value slots in
    same_table tables.entries.items tables.slots.items held (start_table c.trace-trace.result.now) both c.in_ok-tables.ensures.start
    ∙ ap start_table c.trace-trace.ensures))
    c.entries_of_slots.ensures
