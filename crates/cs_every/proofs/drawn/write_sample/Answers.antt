use Rattle.std.proofs.Common.{List, ℕ, length, subst, ◌∙◌}
use Rattle.std.specs.List.{Contains}
use Rattle.cs_sets.specs.Every.{every}
use Rattle.cs_sets.specs.Orders.{needs_in}
use Rattle.cs_sets.specs.Places.{places_of}
use Rattle.cs_every.proofs.Written.{sample_more}
use Rattle.cs_every.proofs.drawn.write_sample.Goals as goal

pub loop-preserved : goal.loop-preserved
loop-preserved g c =
    let all = every (needs_in c.args.order.now) (length c.args.order.now) in
    let set = places_of c.in_ok-set.set in
    record {
      sample = sample_more all c.loop.counter (g.W.Write.contents c.args.out.now) (g.W.Write.contents c.loop.out)
          (g.W.Write.contents c.write_set.new.out) set c.loop.invariant.sample
          (subst (λ (sets : List (List ℕ)). Contains sets set) c.loop.invariant.same c.in_ok-set.ensures.drawn)
          c.in_ok-write_set.ensures.text;
      same = c.draw_set.ensures.same ∙ c.loop.invariant.same;
    }
