-- How another list of users is loaded.
use Rattle.std.specs.Prelude.{List, if◌then◌else◌}
use Rattle.cs_journal.specs.Runs.{RunOf}
use Rattle.cs_registry.specs.Registries.{Registry, with_users}
use Rattle.cs_users.specs.Rows.{Row}
use Rattle.cs_world.specs.declared.reply.Reply.{Reply}
use Rattle.cs_world.specs.declared.reply.Reply.TheVariants.{NotReloaded, Reloaded}
use Rattle.cs_world.specs.Marks.{WorldMark, refuses_users}

-- the runs that are made from then on have the list, if memory holds it
abbrev pub reload_step : Registry RunOf → List Row → WorldMark → Reply × Registry RunOf
reload_step registry users mark =
    if refuses_users mark then (NotReloaded, registry) else
    (Reloaded, with_users registry users)
