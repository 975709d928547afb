use Rattle.std.proofs.Common.{ap, sym, ◌∙◌, length}
use Rattle.cs_apm.specs.Owners.{owner_left}
use Rattle.cs_state.specs.Owners.{rights_places, sets_rights}
use Rattle.cs_state.specs.Steps.{members_in}
use Rattle.cs_state.proofs.Filing.{owner_of_left}
use Rattle.cs_state.proofs.Including.{owner_needed}
use Rattle.cs_state.proofs.Lasting.{first_under}
use Rattle.cs_state.proofs.reading.owner_of.Goals as goal

pub owner_after_members-requires-clause-places : goal.owner_after_members-requires-clause-places
owner_after_members-requires-clause-places c =
    c.row-steps.ensures ∙ c.requires.parts.owner_steps.files c.args.file ∙ ap (λ os. rights_places os c.args.file) (sym c.ops.ensures.value)

pub owner_after_members-requires-clause-first : goal.owner_after_members-requires-clause-first
owner_after_members-requires-clause-first c =
    first_under c.args.parts.now.micros (length c.args.parts.now.micros.ops) c.args.members.now c.requires.set.allowed
    (sets_rights c.args.file) (owner_needed c.args.parts.now.micros c.args.file) c.row-steps.result.now
    (c.row-steps.ensures ∙ c.requires.parts.owner_steps.files c.args.file)

pub returns : goal.returns
returns c =
    c.owner_after_members.ensures
    ∙ ap (λ os. owner_left c.args.file c.index-made.result.now os (members_in c.args.members.now)) c.ops.ensures.value
    ∙ owner_of_left c.args.parts.now c.requires.parts c.args.file (members_in c.args.members.now) c.requires.known c.index-made.result.now
    c.index-made.ensures
