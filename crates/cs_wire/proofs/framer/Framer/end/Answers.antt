use Rattle.std.proofs.Common.{refl, arith}
use Rattle.cs_wire.proofs.Holding.{left-some}
use Rattle.cs_wire.proofs.framer.Framer.end.Goals as goal

pub returns-then-self : goal.returns-then-self
returns-then-self c =
    let f = c.self.inside in
    rw (← c.self.view_is)
    (refl, left-some f.buffer.items f.place f.filled c.if-self.true (omega (arith, c.self.invariant.1, f.buffer.ok.0)))
