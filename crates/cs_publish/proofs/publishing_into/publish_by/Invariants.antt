use Rattle.std.proofs.Common.{◌≡◌}
use Rattle.std.specs.Arc.{arc_value}
use Rattle.cs_publish.proofs.publishing_into.publish_by.Given as goal

abbrev pub ghosts-publish_scene_into : goal.ghosts-publish_scene_into
ghosts-publish_scene_into g a = record { is_scene = λ scene. scene ≡ arc_value a.scene }
