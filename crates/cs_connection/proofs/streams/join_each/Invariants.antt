use Rattle.std.proofs.Common.{◌≡◌, ◌+◌, ◌≤◌, vec_len, length}
use Rattle.std.specs.Prelude.{vec_capacity}
use Rattle.cs_connection.proofs.streams.join_each.Given as goal

abbrev pub invariant-loop-thread : goal.invariant-loop-thread
invariant-loop-thread g l = record {
  each : vec_len l.connections + length l.thread-iterator.rest.items ≡ vec_len l.fn.threads;
  room : vec_len l.fn.threads ≤ vec_capacity l.connections;
}
