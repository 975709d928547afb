use Rattle.std.proofs.Common.{◌≡◌, ◌+◌, ◌≤◌, vec_len, length}
use Rattle.std.specs.Prelude.{vec_capacity}
use Rattle.cs_connection.proofs.streams.start_each.Given as goal

abbrev pub invariant-loop-stream : goal.invariant-loop-stream
invariant-loop-stream g l = record {
  each : vec_len l.threads + length l.stream-iterator.rest.items ≡ vec_len l.fn.streams;
  room : vec_len l.fn.streams ≤ vec_capacity l.threads;
}
