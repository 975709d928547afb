use Rattle.std.proofs.Common.{◌-◌, length}
use Rattle.std.specs.BTreeMap.{get}
use Rattle.cs_sets.specs.Drawing.{AreCounts, IsDraw, row_cmp}
use Rattle.cs_sets.specs.Rows.{needed_in}
use Rattle.cs_sets.proofs.draw.set_numbered.Given as goal

abbrev pub invariant-loop-place : goal.invariant-loop-place
invariant-loop-place l = record {
  known : AreCounts (needed_in l.needed) (length l.needed) l.most (get row_cmp l.known);
  draw : IsDraw (needed_in l.needed) (length l.needed) l.most l.number l.draw;
}

abbrev pub decreases-loop-place : goal.decreases-loop-place
decreases-loop-place l = length l.needed - l.draw.first
