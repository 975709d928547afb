use Rattle.std.proofs.Common.{refl}
use Rattle.cs_wire.proofs.Holding.{goes_on}
use Rattle.cs_wire.proofs.framer.Framer.next.Goals as goal

pub returns-in-Ok-Some : goal.returns-in-Ok-Some
returns-in-Ok-Some c =
    let front = rw (c.in-Ok-Some.field-0-is, c.deref.ensures.value) at c.in-Ok-Some.ensures in
    rw (c.deref-in-Ok-Some.ensures.value, ← c.self.view_is) (
      (
        refl,
        λ _. tt,
        goes_on c.self.inside.buffer.items c.self.inside.place c.self.inside.filled c.in-Ok-Some.size c.self.invariant.0
            front,
      ),
      tt,
    )
