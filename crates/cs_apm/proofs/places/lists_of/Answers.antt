use Rattle.std.proofs.Common.{◌++◌, ◌∷◌, [], ap, map, sym, ◌∙◌, append_assoc}
use Rattle.std.proofs.lemmas.List.{append-nil}
use Rattle.cs_entries.specs.declared.entry.Entry.{Entry}
use Rattle.cs_entries.specs.Laws.Records.{entry_exact, entry_total}
use Rattle.cs_apm.specs.Slots.{Slot}
use Rattle.cs_apm.proofs.Views.{entries-keyed}
use Rattle.cs_apm.proofs.places.lists_of.Goals as goal

pub loop-entry-init : goal.loop-entry-init
loop-entry-init c =
    let gives = c.into_iter-entry-iterator.ensures.into_iter_gives in
    let same = gives.0 ∙ sym (entries-keyed entry_total entry_exact _ gives.5) in
    record {
      first = (λ i. c.new-entries.ensures.items i ++ map (λ (x : Entry × Slot). x.0) (same i));
      second = (λ i. c.new-slots.ensures.items i ++ map (λ (x : Entry × Slot). x.1) (same i));
    }

pub loop-entry-preserved : goal.loop-entry-preserved
loop-entry-preserved c =
    let rest = c.next.new.self in
    record {
      first =
          ap (λ v. v ++ map (λ (x : Entry × Slot). x.0) rest) c.in_ok-push.ensures.items
          ∙ append_assoc c.loop-entry.entries.items (c.in-Some.entry ∷ []) (map (λ (x : Entry × Slot). x.0) rest)
          ∙ ap (λ v. c.loop-entry.entries.items ++ map (λ (x : Entry × Slot). x.0) v) (sym c.in-Some.ensures.steps)
          ∙ c.loop-entry.invariant.first;
      second =
          ap (λ v. v ++ map (λ (x : Entry × Slot). x.1) rest) c.in_ok-push-2.ensures.items
          ∙ append_assoc c.loop-entry.slots.items (c.in-Some.slot ∷ []) (map (λ (x : Entry × Slot). x.1) rest)
          ∙ ap (λ v. c.loop-entry.slots.items ++ map (λ (x : Entry × Slot). x.1) v) (sym c.in-Some.ensures.steps)
          ∙ c.loop-entry.invariant.second;
    }

pub returns : goal.returns
returns c = record {
  entries =
      sym (append-nil _)
      ∙ ap (λ v. c.loop-entry.entries.items ++ map (λ (x : Entry × Slot). x.0) v) (sym c.in-None.ensures.steps.0)
      ∙ c.loop-entry.invariant.first;
  slots =
      sym (append-nil _)
      ∙ ap (λ v. c.loop-entry.slots.items ++ map (λ (x : Entry × Slot). x.1) v) (sym c.in-None.ensures.steps.0)
      ∙ c.loop-entry.invariant.second;
}
