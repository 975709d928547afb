use Rattle.std.proofs.Common.{◌≡◌, ◌≤◌, length, map, take}
use Rattle.std.specs.BTreeSet.{contains}
use Rattle.std.specs.Ordering.{nat_cmp}
use Rattle.cs_sets.specs.Different.{firsts}
use Rattle.cs_sets.specs.Places.{places_of}
use Rattle.cs_different.specs.Sets.{leave_same}
use Rattle.cs_different.specs.Shapes.{IsKept}
use Rattle.cs_different.proofs.finding.firsts_of.Given as goal

abbrev pub invariant-loop-i : goal.invariant-loop-i
invariant-loop-i l = record {
  sets : map places_of l.kept.rows.items ≡ firsts (leave_same l.scene) (map places_of (take l.i l.sets));
  kept : IsKept l.scene l.parts.tables (contains nat_cmp l.shared) l.kept;
  few : length l.kept.rows.items ≤ l.most;
}
