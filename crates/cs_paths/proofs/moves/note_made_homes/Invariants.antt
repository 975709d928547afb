use Rattle.std.proofs.Common.{◌≡◌, drop, length}
use Rattle.std.specs.Prelude.{fold}
use Rattle.cs_paths.specs.PathOrders.{home_after}
use Rattle.cs_paths.proofs.moves.note_made_homes.Given as goal

abbrev pub invariant-loop-step : goal.invariant-loop-step
invariant-loop-step l = record {
  long : length l.homes ≡ length l.fn.homes;
  rest : fold home_after l.homes (drop l.step-index l.steps) ≡ fold home_after l.fn.homes l.steps;
}
