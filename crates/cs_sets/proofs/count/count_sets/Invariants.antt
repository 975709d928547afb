use Rattle.std.proofs.Common.{◌-◌, length}
use Rattle.cs_sets.specs.Counting.{weigh, Capped}
use Rattle.cs_sets.specs.Crowding.{AreReached}
use Rattle.cs_sets.specs.Every.{every}
use Rattle.cs_sets.specs.Rows.{needed_in}
use Rattle.cs_sets.proofs.count.count_sets.Given as goal

abbrev pub invariant-loop-place : goal.invariant-loop-place
invariant-loop-place l = record {
  weight : Capped l.most (weigh (needed_in l.needed) (length l.needed - l.place) l.place l.level.items)
      (length (every (needed_in l.needed) (length l.needed)));
  reached : AreReached (needed_in l.needed) (length l.needed) l.place l.level.items;
}
