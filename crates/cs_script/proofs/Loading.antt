-- A users file that is loaded into a world, or isn't kept.
use Rattle.std.proofs.Common.{◌≡◌, ℕ, List, refl, subst}
use Rattle.std.specs.Prelude.{Ok}
use Rattle.cs_script.specs.Printed.{Loaded, Taken, NotKept, refused_text, reloaded_text}
use Rattle.cs_users.specs.Reading.{users_in}
use Rattle.cs_users.specs.Rows.{Row}
use Rattle.cs_users.specs.declared.fault.UsersFault.TheVariants.{Memory}
use Rattle.cs_world.specs.Steps.{IsStep}
use Rattle.cs_world.specs.Worlds.{World}
use Rattle.cs_world.specs.declared.reply.Reply.{Reply}
use Rattle.cs_world.specs.declared.reply.Reply.TheVariants.{NotReloaded, Reloaded}
use Rattle.cs_world.specs.declared.step.Step.TheVariants.{Reload}

pub taken : (w w' : World) (file : List ℕ) (users : List Row) (reply : Reply) → users_in file ≡ Ok users → IsStep w (Reload users) reply w'
    → reply ≡ Reloaded → Loaded w file reloaded_text w'
taken w w' file users reply read step is = Taken users read (subst (λ (r : Reply). IsStep w (Reload users) r w') is step) refl

-- users that aren't taken aren't kept
pub not_kept : (w w' : World) (file : List ℕ) (users : List Row) (reply : Reply) → users_in file ≡ Ok users
    → IsStep w (Reload users) reply w' → reply ≡ NotReloaded → Loaded w file (refused_text Memory) w'
not_kept w w' file users reply read step is =
    NotKept users read (subst (λ (r : Reply). IsStep w (Reload users) r w') is step) refl
