use Rattle.std.proofs.Common.{◌≡◌, length}
use Rattle.cs_apm.specs.Making.{FindsFiles}
use Rattle.cs_apm.proofs.start.starts_of.Given as goal

abbrev pub invariant-loop-place : goal.invariant-loop-place
invariant-loop-place l = record {
  long : length l.starts.items ≡ l.count;
  found : FindsFiles l.nodes l.place l.starts.items;
}
