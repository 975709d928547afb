use Rattle.std.proofs.Common.{◌≡◌, List, rules, subst}
use Rattle.std.specs.Arc.{arc_value}
use Rattle.std.specs.Prelude.{IfOk}
use Rattle.cs_plan.specs.Scenes.{Scene}
use Rattle.cs_users.specs.Rows.{Row}
use Rattle.cs_world.specs.declared.projecting.WatchedWorld.{WatchedWorld}
use Rattle.cs_world.specs.Noting.{IsStart}
use Rattle.cs_world.proofs.world.World.new_watched.Goals as goal

pub returns : goal.returns
returns c =
    let scene : arc_value c.in_ok-scene.scene ≡ c.args.self.now.registry.scene = search rules in
    let users : arc_value c.in_ok-users.users ≡ c.args.self.now.registry.users = search rules in
    subst (λ (s : Scene). IfOk c.new.result (λ (w : WatchedWorld). IsStart s c.args.self.now.registry.users c.args.key w)) scene
    (subst (λ (u : List Row). IfOk c.new.result (λ (w : WatchedWorld). IsStart (arc_value c.in_ok-scene.scene) u c.args.key w)) users
    c.new.ensures)
