use Rattle.std.proofs.Common.{◌∙◌, ap, arith}
use Rattle.cs_wire.specs.Held.{pending_bytes}
use Rattle.cs_wire.proofs.Holding.{held-taken, left-taken}
use Rattle.cs_wire.proofs.framer.Framer.advance.Goals as goal

pub returns : goal.returns
returns c =
    let taken_is = held-taken c.self.inside.buffer.items c.self.inside.place c.self.inside.filled c.args.count in
    rw (← c.self.view_is) (record {
      left = ap pending_bytes taken_is ∙ left-taken c.self.inside.buffer.items c.self.inside.place c.self.inside.filled c.args.count
          c.self.invariant.0 (omega (arith, c.self.invariant.1, c.self.inside.buffer.ok.0));
      exact = taken_is;
    })
