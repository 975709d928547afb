use Rattle.std.proofs.Common.{◌∙◌, ap, arith, length, length-append}
use Rattle.cs_wire.specs.Held.{pending_bytes, size_of}
use Rattle.cs_session.proofs.Conversing.{served_more}
use Rattle.cs_session.proofs.serving.answer_some.Goals as goal

pub loop-alloc-preserved : goal.loop-alloc-preserved
loop-alloc-preserved g c =
    let was = c.loop-alloc.invariant in
    let on = rw (c.in-Ok-Some.is, c.in-Ok-Some.field-0-is) at c.next.follows.holds-at-none in
    let one = c.answer_one.ensures.answered in
    let len = ap length on.front in
    let parts = length-append c.in-Ok-Some.message.now (pending_bytes c.next.follows.lender-at-none) in
    record {
      served = rw one.adds (served_more g.P.Port.gives _ _ _ _ _ _ _ _ _ _ _ _ _ was.served on.front on.whole one.replied);
      less = omega (arith, len, parts, was.less);
      fewer = λ _. omega (arith, len, parts, was.less, on.whole.at_least);
      size = ap size_of on.moves ∙ was.size;
      room = omega (arith, was.room, c.answer_one.ensures.room);
      idle = c.answer_one.ensures.idle;
    }
