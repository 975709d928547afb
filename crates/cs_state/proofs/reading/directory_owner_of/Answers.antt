use Rattle.std.proofs.Common.{ap, sym, ◌∙◌, length}
use Rattle.cs_apm.specs.Owners.{directory_left}
use Rattle.cs_state.specs.Owners.{directory_places, sets_directory}
use Rattle.cs_state.specs.Steps.{members_in}
use Rattle.cs_state.proofs.Filing.{directory_of_left}
use Rattle.cs_state.proofs.Settling.{directory_needed}
use Rattle.cs_state.proofs.Lasting.{first_under}
use Rattle.cs_state.proofs.reading.directory_owner_of.Goals as goal

pub directory_after_members-requires-clause-places : goal.directory_after_members-requires-clause-places
directory_after_members-requires-clause-places c =
    c.directory_row-steps.ensures ∙ c.requires.parts.owner_steps.directories c.args.directory
    ∙ ap (λ os. directory_places os c.args.directory) (sym c.ops.ensures.value)

pub directory_after_members-requires-clause-first : goal.directory_after_members-requires-clause-first
directory_after_members-requires-clause-first c =
    first_under c.args.parts.now.micros (length c.args.parts.now.micros.ops) c.args.members.now c.requires.set.allowed
    (sets_directory c.args.directory) (directory_needed c.args.parts.now.micros c.args.directory) c.directory_row-steps.result.now
    (c.directory_row-steps.ensures ∙ c.requires.parts.owner_steps.directories c.args.directory)

pub returns : goal.returns
returns c =
    c.directory_after_members.ensures
    ∙ ap (λ os. directory_left c.args.directory c.index-made.result.now os (members_in c.args.members.now)) c.ops.ensures.value
    ∙ directory_of_left c.args.parts.now c.requires.parts c.args.directory (members_in c.args.members.now) c.requires.known
    c.index-made.result.now
    c.index-made.ensures
