use Rattle.std.proofs.Common.{◌≡◌, ◌∷◌, [], cond}
use Rattle.cs_sets.specs.Following.{every_from}
use Rattle.cs_sets.specs.Places.{IsSet, places_of}
use Rattle.cs_sets.proofs.Carrying.{to_order, to_rows}
use Rattle.cs_sets.proofs.order.Order.advance.Goals as goal

pub next_set-requires-clause-set : goal.next_set-requires-clause-set
next_set-requires-clause-set c =
    to_rows c.self.inside.rows.items c.self.inside.reach.items c.self.invariant.order c.args.self.now c.self.view_is c.deref.result.now
    c.deref.ensures.value (λ needs n. IsSet needs n c.args.members.now) c.requires

pub returns-clause-set : goal.returns-clause-set
returns-clause-set c =
    to_order c.self.inside.rows.items c.self.inside.reach.items c.self.invariant.order c.args.self.now c.self.view_is c.deref.result.now
    c.deref.ensures.value (λ needs n. IsSet needs n c.next_set.new.members) c.next_set.ensures.set

pub returns-clause-follows : goal.returns-clause-follows
returns-clause-follows c =
    to_order c.self.inside.rows.items c.self.inside.reach.items c.self.invariant.order c.args.self.now c.self.view_is c.deref.result.now
    c.deref.ensures.value
    (λ needs n. every_from needs n (places_of c.args.members.now)
    ≡ places_of c.args.members.now ∷ cond c.next_set.result (every_from needs n (places_of c.next_set.new.members)) [])
    c.next_set.ensures.follows
