use Rattle.std.proofs.Common.{◌≡◌}
use Rattle.std.specs.Arc.{arc_value}
use Rattle.cs_publish.proofs.publishing.publish_all.Given as goal

abbrev pub ghosts-publish_scene : goal.ghosts-publish_scene
ghosts-publish_scene g a = record { is_scene = λ scene. scene ≡ arc_value a.scene }
