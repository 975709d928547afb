use Rattle.std.proofs.Common.{◌≡◌, ◌++◌, map}
use Rattle.std.specs.FinMap.{entries}
use Rattle.cs_entries.specs.declared.entry.Entry.{Entry}
use Rattle.cs_apm.specs.Slots.{Slot}
use Rattle.cs_apm.specs.Held.{held_of}
use Rattle.cs_apm.proofs.places.lists_of.Given as goal

abbrev pub invariant-loop-entry : goal.invariant-loop-entry
invariant-loop-entry l = record {
  first : l.entries.items ++ map (λ (x : Entry × Slot). x.0) l.entry-iterator ≡ map (λ (x : Entry × Slot). x.0)
      (entries (held_of l.fn.held));
  second : l.slots.items ++ map (λ (x : Entry × Slot). x.1) l.entry-iterator ≡ map (λ (x : Entry × Slot). x.1)
      (entries (held_of l.fn.held));
}
