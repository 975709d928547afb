use Rattle.std.proofs.Common.{drop}
use Rattle.cs_apm.specs.Slots.{Mirror}
use Rattle.cs_list.proofs.entries.entries_of_slots.Given as goal

abbrev pub invariant-loop-place : goal.invariant-loop-place
invariant-loop-place l = Mirror (drop l.place l.entries) (drop l.place l.slots) l.held
