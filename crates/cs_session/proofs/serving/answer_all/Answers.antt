use Rattle.std.proofs.Common.{arith, ◌∙◌, refl}
use Rattle.cs_stream.proofs.Counting.{keeps_reads_same, keeps_reads_then, keeps_faults_same, keeps_faults_then}
use Rattle.cs_session.proofs.Conversing.{handling_none, handling_more, handled_whole, handled_part}
use Rattle.cs_session.proofs.serving.answer_all.Goals as goal

pub loop-fault-init : goal.loop-fault-init
loop-fault-init g c = record {
  handling = handling_none g.P.Port.gives _ _ _ _;
  faults = keeps_faults_same _;
  reads = keeps_reads_same _;
  no_row = omega arith;
  remaining = refl;
  size = refl;
  room = c.requires.room;
  idle = c.requires.idle;
}

pub returns-in-Err-clause-handled : goal.returns-in-Err-clause-handled
returns-in-Err-clause-handled g c =
    let part = rw c.deref.ensures.value at c.in-Err.ensures.err in
    handled_part g.P.Port.gives _ _ _ _ _ _ _ _ _ _ _ _ _ c.loop-fault.invariant.handling c.answer_some-progress.ensures.served part

pub returns-in-Done-clause-handled : goal.returns-in-Done-clause-handled
returns-in-Done-clause-handled g c =
    let sent = rw c.deref.ensures.value at c.in-Ok.ensures.ok in
    let stops = rw c.in-Done.is at c.answer_some-progress.ensures.stops in
    handled_whole g.P.Port.gives _ _ _ _ _ _ _ _ _
    (handling_more g.P.Port.gives _ _ _ _ _ _ _ _ _ _ _ _ _ c.loop-fault.invariant.handling c.answer_some-progress.ensures.served sent)
    (stops, refl)

pub returns-in-Stopped-clause-handled : goal.returns-in-Stopped-clause-handled
returns-in-Stopped-clause-handled g c =
    let sent = rw c.deref.ensures.value at c.in-Ok.ensures.ok in
    let stops = rw c.in-Stopped.is at c.answer_some-progress.ensures.stops in
    handled_whole g.P.Port.gives _ _ _ _ _ _ _ _ _
    (handling_more g.P.Port.gives _ _ _ _ _ _ _ _ _ _ _ _ _ c.loop-fault.invariant.handling c.answer_some-progress.ensures.served sent)
    (stops, refl)

pub loop-fault-preserved : goal.loop-fault-preserved
loop-fault-preserved g c =
    let was = c.loop-fault.invariant in
    let sent = rw c.deref.ensures.value at c.in-Ok.ensures.ok in
    record {
      handling = handling_more g.P.Port.gives _ _ _ _ _ _ _ _ _ _ _ _ _ was.handling c.answer_some-progress.ensures.served sent;
      faults = keeps_faults_then _ _ _ was.faults c.in-Ok.ensures.faults;
      reads = keeps_reads_then _ _ _ was.reads c.in-Ok.ensures.reads;
      no_row = omega (arith, was.no_row, c.in-Ok.ensures.no_row);
      remaining = c.in-Ok.ensures.remaining ∙ was.remaining;
      size = c.answer_some-progress.ensures.size ∙ was.size;
      room = c.answer_some-progress.ensures.room;
      idle = c.answer_some-progress.ensures.idle;
    }
