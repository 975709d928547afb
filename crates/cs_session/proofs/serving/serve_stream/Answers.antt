use Rattle.cs_session.proofs.Listening.{conversed_nothing, nothing_read}
use Rattle.cs_session.proofs.serving.serve_stream.Goals as goal
use Rattle.cs_session.proofs.serving.serve_stream.Goals.{in-Ok, in-Err}

pub returns-clause-serves : goal.returns-clause-serves
returns-clause-serves g c = record {
  last = c.match-make_buffers.session;
  there = c.match-make_buffers.port;
  moment = c.now.result;
  conversed = elim c.match-make_buffers.branch [
    | in-Ok w ↦ rw (w.result-is, w.stream-is, w.session-is, w.port-is, ← c.new-session.ensures) w.converse-result.ensures.conversed
    | in-Err w ↦ rw (w.result-is, w.stream-is, w.session-is, w.port-is, c.new-session.ensures) (conversed_nothing g.P.Port.gives _ _ _ _)
  ];
  hung_up = rw c.hang_up.ensures.ended at c.hang_up.ensures.answered;
}

pub returns-clause-faults : goal.returns-clause-faults
returns-clause-faults g c = elim c.match-make_buffers.branch [
  | in-Ok w ↦
      let done = w.converse-result.ensures in
      rw (w.result-is, w.stream-is) (record {
        read_fault = done.read_fault;
        write_fault = done.write_fault;
        ended = done.ended;
        cut = done.cut;
        no_end = done.no_end;
        bounded = done.bounded;
        reads_in_time = done.reads_in_time;
        writes_in_time = done.writes_in_time;
        memory = λ e. absurd (done.memory e);
      })
  | in-Err w ↦ rw (w.result-is, w.stream-is) (nothing_read _)
]
