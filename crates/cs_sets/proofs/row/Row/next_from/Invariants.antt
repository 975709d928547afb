use Rattle.std.proofs.Common.{◌-◌, ◌≤◌}
use Rattle.cs_sets.specs.Bits.{has_place}
use Rattle.cs_sets.specs.Finding.{HasNone}
use Rattle.cs_sets.proofs.row.Row.next_from.Given as goal

abbrev pub invariant-loop-at : goal.invariant-loop-at
invariant-loop-at l = record { from : l.first ≤ l.at; none : HasNone (has_place l.self) l.first l.at }

abbrev pub decreases-loop-at : goal.decreases-loop-at
decreases-loop-at l = l.end - l.at
