use Rattle.std.proofs.Common.{length}
use Rattle.cs_sets.specs.Every.{every}
use Rattle.cs_sets.specs.Orders.{needs_in}
use Rattle.cs_sets.specs.Places.{places_of}
use Rattle.cs_every.proofs.Written.{passed_more}
use Rattle.cs_every.proofs.counted.has_more_than.Goals as goal

pub loop-preserved : goal.loop-preserved
loop-preserved c =
    passed_more c.loop.counter c.loop.sets c.next.new.self (every (needs_in c.args.order.now) (length c.args.order.now))
    (places_of c.in-Some.passed) c.loop.invariant c.in-Some.ensures.steps
