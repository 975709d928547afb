use Rattle.std.proofs.Common.{◌≡◌, Some}
use Rattle.std.specs.Arc.{arc_value}
use Rattle.cs_plan.specs.Scenes.{state_at}
use Rattle.cs_serve.proofs.tests.workers.two_workers_publish_for_a_server_at_once.Given as goal

-- the server is one of the scene and of its states
abbrev pub ghosts-two_publish : goal.ghosts-two_publish
ghosts-two_publish g a = record {
  serves = λ number tree users. state_at (arc_value a.scene) number ≡ Some tree;
  loads = λ users. Unit {0};
  is_scene = λ scene. scene ≡ arc_value a.scene;
}
