use Rattle.std.proofs.Common.{◌≡◌, ◌++◌, ◌-◌}
use Rattle.cs_entries.specs.Tables.{below}
use Rattle.cs_apm.specs.Slots.{held_in_slots}
use Rattle.cs_apm.proofs.Walking.{rest}
use Rattle.cs_apm.proofs.walk.+push_below.Given as goal

abbrev pub decreases-push_below : goal.decreases-push_below
decreases-push_below l = l.deep

abbrev pub invariant-loop-i : goal.invariant-loop-i
invariant-loop-i l =
    l.found.items ++ rest l.entries l.slots (l.deep - 1) l.path l.directory l.i
    ≡ l.fn.found.items ++ below (held_in_slots l.entries l.slots) l.deep l.path l.directory
