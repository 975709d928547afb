use Rattle.std.proofs.Common.{◌≡◌, ◌+◌, ◌-◌, length, take}
use Rattle.cs_sets.specs.Counting.{weigh}
use Rattle.cs_sets.specs.Crowding.{AreReached}
use Rattle.cs_sets.specs.Rows.{needed_in}
use Rattle.cs_sets.proofs.count.split.Given as goal

abbrev pub invariant-loop-future : goal.invariant-loop-future
invariant-loop-future l = record {
  weight : weigh (needed_in l.needed) (length l.needed - (l.place + 1)) (l.place + 1) l.next.items
      ≡ weigh (needed_in l.needed) (length l.needed - l.place) l.place (take l.future-index l.level);
  reached : AreReached (needed_in l.needed) (length l.needed) l.place l.level
      → AreReached (needed_in l.needed) (length l.needed) (l.place + 1) l.next.items;
}
