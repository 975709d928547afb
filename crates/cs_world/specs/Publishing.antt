-- How the state of a number is made and published.
use Rattle.std.specs.Prelude.{ℕ, nat_lt, not, length, if◌then◌else◌}
use Rattle.cs_registry.specs.Publishing.{with_published}
use Rattle.cs_registry.specs.Registries.{Registry, is_published}
use Rattle.cs_world.specs.declared.reply.Reply.{Reply}
use Rattle.cs_world.specs.declared.reply.Reply.TheVariants.{Published, NotPublished}
use Rattle.cs_world.specs.declared.reply.StateFault.TheVariants.{NoSuchState, Twice, Memory}
use Rattle.cs_world.specs.Marks.{WorldMark, refuses_keeping, refuses_state}
use Rattle.cs_journal.specs.Runs.{RunOf}

-- the plan must have the number; then the state is made; then it must not be published yet; then
-- it is kept
abbrev pub publish_step : Registry RunOf → ℕ → WorldMark → Reply × Registry RunOf
publish_step registry number mark =
    if not (nat_lt number (length registry.scene.plan))
    then (NotPublished NoSuchState, registry) else
    if refuses_state mark then (NotPublished Memory, registry) else
    if is_published registry number then (NotPublished Twice, registry) else
    if refuses_keeping mark then (NotPublished Memory, registry) else
    (Published, with_published registry number)
