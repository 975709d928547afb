use Rattle.std.proofs.Common.{◌≡◌, ◌++◌}
use Rattle.cs_connection.specs.Given.{KeepsPasses}
use Rattle.cs_connection.proofs.given.GivenPasses.keep_each.Given as goal

abbrev pub invariant-loop-given : goal.invariant-loop-given
invariant-loop-given g l = record {
  parts : l.fn.passes.items ≡ l.yielded ++ l.given-iterator.rest.items;
  kept : KeepsPasses l.initial.self (record { runs = l.runs; passes = l.yielded }) l.self;
}
