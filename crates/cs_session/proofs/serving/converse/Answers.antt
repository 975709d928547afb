use Rattle.std.proofs.Common.{◌≡◌, ◌<◌, ◌++◌, ℕ, List, length, take, ◌∙◌, refl, ap, arith}
use Rattle.std.proofs.lemmas.Result.{err_from_is_err_and}
use Rattle.cs_wire.specs.Held.{pending_bytes, size_of, room_with}
use Rattle.cs_stream.specs.declared.stream.Counts.{Counts}
use Rattle.cs_stream.specs.declared.stream.Transfer.TheVariants.{Bytes, Interrupted}
use Rattle.cs_stream.proofs.Written.{Consumes-keeps}
use Rattle.cs_stream.proofs.Counting.{keeps_faults_same, no_end, one_end, reading_more, reading_kept}
use Rattle.cs_session.proofs.Listening.{written-whole, size-written, size-taken, room_some, unfinished_none, listening_none, listening_same}
use Rattle.cs_session.proofs.Listening.{listening_on, listening_more, conversed_part, conversed_whole}
use Rattle.cs_session.proofs.serving.converse.Goals as goal

pub loop-init : goal.loop-init
loop-init g c = record {
  listening = listening_none g.P.Port.gives _ _ _ _ _ c.requires.left;
  unfinished = rw c.requires.left unfinished_none;
  size = c.requires.size;
  room = c.requires.room;
  idle = c.requires.idle;
  few = omega arith;
  waits = omega arith;
  row = omega arith;
  writes = omega arith;
  made = omega arith;
  reading = record { reads = omega arith; failed = omega arith; ends = refl; faults = keeps_faults_same _ };
}

pub returns-in-Err-clause-conversed : goal.returns-in-Err-clause-conversed
returns-in-Err-clause-conversed g c =
    let was = c.loop.invariant in
    let read = rw c.in-Bytes-eq0.field-0-test at c.in-Bytes-eq0.ensures in
    let same = listening_same g.P.Port.gives _ _ _ _ _ _ _ _ _ _ _ was.listening (Consumes-keeps _ _ read.bytes.1) read.contents in
    let room =
    room_some c.loop.framer c.make_room.new.self c.make_room.ensures.left c.make_room.ensures.size c.make_room.ensures.room was.size
    was.unfinished in
    let some : 0 < length c.read.new.buf = omega (arith, room, c.read.auto.buf, ap length c.room.ensures.value) in
    let left_over = rw c.make_room.ensures.left at c.in-Err.ensures.1 in
    rw c.in-Err.ensures.0
    (conversed_whole g.P.Port.gives _ _ _ _ _ _ _ _ _ _ same (λ _. (was.unfinished, left_over, refl, read.bytes.2 refl some)))

pub returns-in-Err-clause-cut : goal.returns-in-Err-clause-cut
returns-in-Err-clause-cut g c =
    let was = c.loop.invariant in
    let read = rw c.in-Bytes-eq0.field-0-test at c.in-Bytes-eq0.ensures in
    let room =
    room_some c.loop.framer c.make_room.new.self c.make_room.ensures.left c.make_room.ensures.size c.make_room.ensures.room was.size
    was.unfinished in
    λ _. rw read.counted (one_end _ _ (length c.room.result.now) was.reading.ends (omega (arith, room, ap length c.room.ensures.value)))

pub returns-in_err-answer_all-in-Bytes-clause-conversed : goal.returns-in_err-answer_all-in-Bytes-clause-conversed
returns-in_err-answer_all-in-Bytes-clause-conversed g c =
    let was = c.loop.invariant in
    let read = c.in-Bytes.ensures in
    let on = listening_on g.P.Port.gives _ _ _ _ _ _ _ _ _ _ _ _ was.listening read.bytes.1 read.contents in
    let full = written-whole c.make_room.new.self.room c.read.new.buf (c.read.auto.buf ∙ ap length c.room.ensures.value) in
    let here : pending_bytes c.advance.new.self ≡ pending_bytes c.loop.framer ++ take c.in-Bytes.count c.read.new.buf =
    c.advance.ensures.left ∙ ap (λ (z : List ℕ). z ++ take c.in-Bytes.count (room_with c.make_room.new.self.room c.read.new.buf))
    c.make_room.ensures.left ∙ ap (λ (z : List ℕ). pending_bytes c.loop.framer ++ take c.in-Bytes.count z) full in
    let fault = err_from_is_err_and c.from_residual.result c.from_residual.ensures.1 in
    let handled = rw here at c.in_err-answer_all-in-Bytes.ensures.handled in
    rw (fault.1, fault.2, c.in_err-answer_all-in-Bytes.ensures.remaining)
    (conversed_part g.P.Port.gives _ _ _ _ _ _ _ _ _ _ _ _ _ _ on handled)

pub loop-preserved-in-Interrupted : goal.loop-preserved-in-Interrupted
loop-preserved-in-Interrupted g c =
    let was = c.loop.invariant in
    let read = c.in-Interrupted.ensures in
    let reading =
    reading_more c.loop.counter (g.S.Stream.counts c.args.stream.now) (g.S.Stream.counts c.loop.stream) Interrupted
    (length c.room.result.now) (g.S.Stream.counts c.read.new.self) was.reading read.counted refl in
    record {
      listening = rw c.make_room.ensures.left (listening_same g.P.Port.gives _ _ _ _ _ _ _ _ _ _ _ was.listening read.bytes read.contents);
      unfinished = rw c.make_room.ensures.left was.unfinished;
      size = rw (size-written c.make_room.new.self c.read.new.buf, c.make_room.ensures.size) was.size;
      room = was.room;
      idle = was.idle;
      few = omega arith;
      waits = rw read.counted (omega (arith, was.waits, was.few));
      row = rw read.counted (omega (arith, was.row));
      writes = rw read.counted was.writes;
      made = omega (arith, was.made);
      reading = reading;
    }

pub loop-preserved : goal.loop-preserved
loop-preserved g c =
    let was = c.loop.invariant in
    let read = c.in-Bytes.ensures in
    let answered = c.in_ok-answer_all-in-Bytes.ensures in
    let on = listening_on g.P.Port.gives _ _ _ _ _ _ _ _ _ _ _ _ was.listening read.bytes.1 read.contents in
    let full = written-whole c.make_room.new.self.room c.read.new.buf (c.read.auto.buf ∙ ap length c.room.ensures.value) in
    let here : pending_bytes c.advance.new.self ≡ pending_bytes c.loop.framer ++ take c.in-Bytes.count c.read.new.buf =
    c.advance.ensures.left ∙ ap (λ (z : List ℕ). z ++ take c.in-Bytes.count (room_with c.make_room.new.self.room c.read.new.buf))
    c.make_room.ensures.left ∙ ap (λ (z : List ℕ). pending_bytes c.loop.framer ++ take c.in-Bytes.count z) full in
    let handled = rw here at answered.handled in
    let more =
    reading_more c.loop.counter (g.S.Stream.counts c.args.stream.now) (g.S.Stream.counts c.loop.stream) (Bytes c.in-Bytes.count)
    (length c.room.result.now) (g.S.Stream.counts c.read.new.self) was.reading read.counted
    (no_end c.in-Bytes.count (length c.room.result.now) (g.S.Stream.counts c.loop.stream).ends (omega (arith, c.in-Bytes.count-test)))
    in
    let reading = reading_kept _ _ _ _ more answered.reads answered.faults in
    let read_row = ap (λ (k : Counts). k.interrupted_reads) read.counted in
    let read_writes = ap (λ (k : Counts). k.interrupted_writes) read.counted in
    let size = answered.size ∙ ap size_of c.advance.ensures.exact ∙ size-taken (record c.make_room.new.self {
      room = room_with c.make_room.new.self.room c.read.new.buf;
    }) c.in-Bytes.count ∙ size-written c.make_room.new.self c.read.new.buf ∙ c.make_room.ensures.size in
    record {
      listening = rw answered.remaining (listening_more g.P.Port.gives _ _ _ _ _ _ _ _ _ _ _ _ _ on handled);
      unfinished = handled.stops.0;
      size = rw size was.size;
      room = answered.room;
      idle = answered.idle;
      few = omega arith;
      waits = omega arith;
      row = omega (arith, answered.reads.interrupted, read_row);
      writes = omega (arith, answered.no_row, was.writes, read_writes);
      made = omega arith;
      reading = reading;
    }
