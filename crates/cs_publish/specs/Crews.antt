-- How many workers there may be, and what they publish.
use Rattle.std.specs.Prelude.{ℕ, ⊤, ◌&&◌, Bool, true, nat_le, List, [], length, replicate}
use Rattle.cs_names.specs.declared.limits.TheConstants.{WORKERS}
use Rattle.cs_plan.specs.Scenes.{Scene}
use Rattle.cs_registry.specs.Registries.{Registry}
use Rattle.cs_users.specs.Rows.{Row}
use Rattle.cs_shared_runs.specs.Serving.{IsOnly}
use Rattle.cs_publish.specs.declared.publishing_into.SameScene.{SameScene}
use Rattle.cs_publish.specs.declared.publishing_into.SameScene.TheVariants.{ByType, ByContent}

-- how many workers there may be
abbrev pub is_crew : ℕ → Bool
is_crew workers = nat_le 1 workers && nat_le workers WORKERS

-- every state of the plan is published, and there is no run
abbrev pub all_published : {H : Type 0} → Scene → List Row → Registry H
all_published scene users =
    record {
      scene = scene;
      users = users;
      published = replicate (length scene.plan) true;
      runs = [];
    }

-- states of the scene may be published in a server's registry of it: without comparing contents
-- only if the server's type allows no other scene
abbrev pub MayPublish : (Scene → Type 0) → SameScene → Scene → Type 0
MayPublish is_scene ByType scene = IsOnly is_scene scene
MayPublish is_scene ByContent scene = ⊤
