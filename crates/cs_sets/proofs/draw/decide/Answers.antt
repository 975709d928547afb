use Rattle.std.proofs.Common.{arith, length}
use Rattle.cs_sets.specs.Rows.{needed_in}
use Rattle.cs_sets.proofs.Drawing.{with_drawn, without_drawn}
use Rattle.cs_sets.proofs.Tables.{cleared_out}
use Rattle.cs_sets.proofs.draw.decide.Goals as goal

pub returns-then-draw-fewer-clause-draw : goal.returns-then-draw-fewer-clause-draw
returns-then-draw-fewer-clause-draw c = λ number draw.
    without_drawn (needed_in c.args.needed.now) c.requires.chained (length c.args.needed.now) c.args.most number c.requires.some
    c.args.draw.now
    c.args.place draw c.requires.next c.clear.new.self
    (cleared_out c.args.needed.now c.args.draw.now.left c.remove.new.self c.clear.new.self c.args.place _ c.requires.next.before_end
    c.remove.ensures c.clear.ensures)
    c.in_ok-fewer.fewer c.in_ok-fewer.ensures.count c.if-draw-fewer.true

pub returns-clause-draw : goal.returns-clause-draw
returns-clause-draw c = λ number draw.
    with_drawn (needed_in c.args.needed.now) c.requires.chained (length c.args.needed.now) c.args.most number c.requires.some
    c.args.draw.now
    c.args.place draw c.requires.next c.clear.new.self
    (cleared_out c.args.needed.now c.args.draw.now.left c.remove.new.self c.clear.new.self c.args.place _ c.requires.next.before_end
    c.remove.ensures c.clear.ensures)
    c.in_ok-fewer.fewer c.in_ok-fewer.ensures.count c.clear-2.new.self c.set.new.self c.clear-2.ensures c.set.ensures c.if-draw-fewer.false
