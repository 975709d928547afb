use Rattle.std.proofs.Common.{◌-◌, length}
use Rattle.cs_sets.proofs.draw.+count_from.Given as goal

abbrev pub decreases-count_from : goal.decreases-count_from
decreases-count_from l = length l.needed.now - l.first
