use Rattle.std.proofs.Common.{◌≡◌, length}
use Rattle.cs_sets.specs.Every.{every}
use Rattle.cs_sets.specs.Orders.{needs_in}
use Rattle.cs_every.specs.Drawn.{WritesSample}
use Rattle.cs_every.proofs.drawn.write_sample.Given as goal

abbrev pub invariant-loop : goal.invariant-loop
invariant-loop g l = record {
  sample : WritesSample (every (needs_in l.order) (length l.order)) l.counter (g.W.Write.contents l.fn.out) (g.W.Write.contents l.out);
  same : l.sets ≡ every (needs_in l.order) (length l.order);
}
