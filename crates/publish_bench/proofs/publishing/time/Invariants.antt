use Rattle.std.proofs.Common.{◌≡◌, Some}
use Rattle.std.specs.Arc.{arc_value}
use Rattle.cs_plan.specs.Scenes.{state_at}
use Rattle.publish_bench.proofs.publishing.time.Given as goal

-- the server is one of the scene and of its states
abbrev pub ghosts-time_scene : goal.ghosts-time_scene
ghosts-time_scene g a = record {
  serves = λ number tree users. state_at (arc_value a.scene) number ≡ Some tree;
  loads = λ users. Unit {0};
  is_scene = λ scene. scene ≡ arc_value a.scene;
}
