use Rattle.std.proofs.Common.{length}
use Rattle.std.specs.List.{filter}
use Rattle.cs_sets.specs.Every.{every}
use Rattle.cs_sets.specs.Orders.{needs_in}
use Rattle.cs_sets.specs.Places.{places_of}
use Rattle.cs_different.specs.Members.{has_seconds}
use Rattle.cs_every.proofs.Written.{passed_more}
use Rattle.cs_picks.proofs.under.has_more_than.Goals as goal

pub loop-preserved : goal.loop-preserved
loop-preserved c =
    let p = has_seconds c.args.firsts.now in
    passed_more c.loop.counter (filter p c.loop.sets) (filter p c.next_whole.new.sets)
    (filter p (every (needs_in c.args.order.now) (length c.args.order.now))) (places_of c.in-Some.passed) c.loop.invariant c.in-Some.ensures
