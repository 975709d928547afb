use Rattle.std.proofs.Common.{◌≡◌, ◌++◌, length, take, ◌∙◌, refl, arith}
use Rattle.cs_stream.specs.declared.stream.Transfer.TheVariants.{Bytes, Interrupted}
use Rattle.std.proofs.KnownBytes.{Consumes-kept, Consumes-nil, Consumes-trans}
use Rattle.cs_stream.proofs.Written.{Consumes-keeps}
use Rattle.cs_stream.proofs.Counting.{keeps_faults_same, no_end, reading_more}
use Rattle.cs_script.proofs.Filled.{filled}
use Rattle.cs_script.proofs.reading.read_all.Goals as goal

pub loop-init : goal.loop-init
loop-init g c = record {
  read = rw c.new-bytes.ensures.items (Consumes-nil _);
  contents = refl;
  room = c.in-Ok.ensures.len;
  few = omega arith;
  waits = omega arith;
  made = omega arith;
  reads = omega arith;
  failed = omega arith;
  ends = refl;
  faults = keeps_faults_same _;
}

pub returns-in-Bytes-eq0-clause-bytes : goal.returns-in-Bytes-eq0-clause-bytes
returns-in-Bytes-eq0-clause-bytes g c =
    let said = rw c.in-Bytes-eq0.field-0-test at c.in-Bytes-eq0.ensures in
    Consumes-kept _ _ _ _ c.loop.invariant.read (Consumes-keeps _ _ said.bytes.1)

pub loop-preserved-in-Interrupted : goal.loop-preserved-in-Interrupted
loop-preserved-in-Interrupted g c =
    let was = c.loop.invariant in
    let said = c.in-Interrupted.ensures in
    let reading =
    reading_more c.loop.counter (g.S.Stream.counts c.args.stream.now) (g.S.Stream.counts c.loop.stream) Interrupted
    (length c.as_mut_slice.result.now) (g.S.Stream.counts c.read.new.self) (record {
      reads = was.reads;
      failed = was.failed;
      ends = was.ends;
      faults = was.faults;
    }) said.counted refl in
    record {
      read = Consumes-kept _ _ _ _ was.read said.bytes;
      contents = said.contents ∙ was.contents;
      room = was.room;
      few = omega arith;
      waits = rw said.counted (omega (arith, was.waits, was.few));
      made = omega (arith, was.made);
      reads = reading.reads;
      failed = reading.failed;
      ends = reading.ends;
      faults = reading.faults;
    }

pub loop-preserved : goal.loop-preserved
loop-preserved g c =
    let was = c.loop.invariant in
    let said = c.in-Bytes.ensures in
    let reading =
    reading_more c.loop.counter (g.S.Stream.counts c.args.stream.now) (g.S.Stream.counts c.loop.stream) (Bytes c.in-Bytes.count)
    (length c.as_mut_slice.result.now) (g.S.Stream.counts c.read.new.self) (record {
      reads = was.reads;
      failed = was.failed;
      ends = was.ends;
      faults = was.faults;
    }) said.counted
    (no_end c.in-Bytes.count (length c.as_mut_slice.result.now) (g.S.Stream.counts c.loop.stream).ends
    (omega (arith, c.in-Bytes.count-test))) in
    let full : length c.read.new.buf ≡ c.loop.room.len = c.read.auto.buf ∙ c.as_mut_slice.ensures.len in
    let room : c.deref.result.now ≡ c.read.new.buf = c.deref.ensures.value ∙ filled c.loop.room.len c.read.new.buf c.loop.room.items full in
    let items = c.extend_from_slice.ensures.items in
    let fine = c.if-is_err.ensures.negation in
    let grown : c.extend_from_slice.new.self.items ≡ c.loop.bytes.items ++ take c.in-Bytes.count c.read.new.buf =
    rw (fine, room) at items in
    record {
      read = rw grown (Consumes-trans _ _ _ _ _ was.read said.bytes.1);
      contents = said.contents ∙ was.contents;
      room = was.room;
      few = omega arith;
      waits = omega arith;
      made = omega arith;
      reads = reading.reads;
      failed = reading.failed;
      ends = reading.ends;
      faults = reading.faults;
    }
