use Rattle.std.proofs.Common.{refl}
use Rattle.cs_world.proofs.Reached.{connections_stay, publish_keeps, reload_keeps, runs_stay}
use Rattle.cs_world.proofs.Leaving.{places_stay, scene_stays}
use Rattle.cs_world.proofs.laws.only_what_is_asked_changes.Goals as goal

pub returns : goal.returns
returns c = record {
  step = λ w conn now x mark. record {
    runs = runs_stay w conn now x mark;
    places = places_stay w conn now x mark;
    connections = connections_stay w conn now x mark;
  };
  publish = λ w number mark. (publish_keeps w.registry number mark, refl);
  reload = λ w users mark. (reload_keeps w.registry users mark, refl);
  scene = scene_stays;
}
