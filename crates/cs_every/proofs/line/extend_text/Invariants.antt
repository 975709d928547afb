use Rattle.std.proofs.Common.{◌≤◌, ◌-◌}
use Rattle.cs_sets.specs.Bits.{has_place}
use Rattle.cs_every.specs.Lines.{IsText}
use Rattle.cs_every.proofs.line.extend_text.Given as goal

abbrev pub invariant-loop-place : goal.invariant-loop-place
invariant-loop-place l = record {
  low : l.at ≤ 1024;
  kept : IsText l.starts l.text.items (has_place l.set) l.at;
}

abbrev pub decreases-loop-place : goal.decreases-loop-place
decreases-loop-place l = 1024 - l.at
