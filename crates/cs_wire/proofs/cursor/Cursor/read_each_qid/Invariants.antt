use Rattle.std.proofs.Common.{◌≡◌, ◌-◌, map}
use Rattle.cs_wire.specs.Few.{items_of}
use Rattle.cs_wire.specs.Messages.{qid_of, qid_shape}
use Rattle.cs_wire.specs.Reading.{field_at, times_at}
use Rattle.cs_wire.proofs.Loop.{with_front}
use Rattle.cs_wire.proofs.cursor.Cursor.read_each_qid.Given as goal

abbrev pub invariant-loop : goal.invariant-loop
invariant-loop l = record {
  read : with_front (map qid_of (items_of l.qids)) (times_at (field_at qid_shape) (l.count - l.counter) l.self.rest.now)
      ≡ times_at (field_at qid_shape) l.count l.fn.self.rest.now;
  so_many : l.qids.count ≡ l.counter;
}
