use Rattle.std.proofs.Common.{◌≡◌, Some}
use Rattle.std.specs.Arc.{arc_value}
use Rattle.cs_plan.specs.Scenes.{state_at}
use Rattle.cs_serve.specs.Users.{MayBeLoaded}
use Rattle.cs_serve.proofs.serving.run_server.Given as goal

-- the server is one of the scene, of its states, and of the users that may be loaded
abbrev pub ghosts-serve_scene : goal.ghosts-serve_scene
ghosts-serve_scene g a = record {
  serves = λ number tree users. (state_at (arc_value a.scene) number ≡ Some tree) × MayBeLoaded a.inputs.now a.serving users;
  loads = MayBeLoaded a.inputs.now a.serving;
  is_scene = λ scene. scene ≡ arc_value a.scene;
}
