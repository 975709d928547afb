use Rattle.std.proofs.Common.{◌≡◌, Some}
use Rattle.std.specs.Arc.{arc_value}
use Rattle.cs_plan.specs.Scenes.{state_at}
use Rattle.cs_shared_runs_tests.proofs.tests.publishing.a_gate_is_asked_once_for_each_state.Given as goal

-- the server is one of the scene and of its states
abbrev pub ghosts-asks : goal.ghosts-asks
ghosts-asks g a = record {
  serves = λ number tree users. state_at (arc_value a.scene) number ≡ Some tree;
  loads = λ users. Unit {0};
  is_scene = λ scene. scene ≡ arc_value a.scene;
}
