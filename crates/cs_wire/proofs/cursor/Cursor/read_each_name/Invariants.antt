use Rattle.std.proofs.Common.{◌≡◌, ◌-◌}
use Rattle.cs_wire.specs.Few.{items_of}
use Rattle.cs_wire.specs.Fields.{Text}
use Rattle.cs_wire.specs.Messages.{texts_in}
use Rattle.cs_wire.specs.Reading.{field_at, times_at}
use Rattle.cs_wire.proofs.Loop.{with_front}
use Rattle.cs_wire.proofs.cursor.Cursor.read_each_name.Given as goal

abbrev pub invariant-loop : goal.invariant-loop
invariant-loop l = record {
  read : with_front (texts_in (items_of l.names)) (times_at (field_at Text) (l.count - l.counter) l.self.rest.now)
      ≡ times_at (field_at Text) l.count l.fn.self.rest.now;
  so_many : l.names.count ≡ l.counter;
}
