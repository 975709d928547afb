use Rattle.std.proofs.Common.{◌≡◌, length}
use Rattle.cs_apm.proofs.Starting.{AreNotedFrom}
use Rattle.cs_apm.proofs.start.directory_places.Given as goal

abbrev pub invariant-loop-k : goal.invariant-loop-k
invariant-loop-k l = record {
  long : length l.places.items ≡ l.count;
  each : AreNotedFrom l.nodes l.count l.k l.places.items;
}
