use Rattle.std.proofs.Common.{sym, ap, ◌∙◌, fold, length, map}
use Rattle.cs_apm.specs.Rules.{op_at}
use Rattle.cs_state.specs.Shares.{numbers_that_pass}
use Rattle.cs_state.specs.Steps.{members_in, resizes, AreFileSteps}
use Rattle.cs_state.specs.Parts.{bytes_before}
use Rattle.cs_state.specs.Windows.{size_after}
use Rattle.cs_state.proofs.Including.{size_needed}
use Rattle.cs_state.proofs.Lasting.{first_under}
use Rattle.cs_state.proofs.Striking.{are, size_is}
use Rattle.cs_state.proofs.reading.changed_size.Goals as goal

pub size_after_members-requires-clause-sizes : goal.size_after_members-requires-clause-sizes
size_after_members-requires-clause-sizes c =
    let steps : AreFileSteps c.args.file (length (bytes_before c.args.parts.now c.args.file)) c.args.parts.now.micros.ops
    c.index.result.now =
    are c.args.parts.now c.requires.parts c.args.file c.requires.known c.args.members.now c.requires.set c.index.result.now c.index.ensures
    c.requires.changed in
    c.deref.ensures.value ∙ steps.sizes ∙ ap (λ os. numbers_that_pass (λ k. resizes c.args.file (op_at os k)) (length os))
    (sym c.ops.ensures.value)

pub size_after_members-requires-clause-first : goal.size_after_members-requires-clause-first
size_after_members-requires-clause-first c =
    let steps : AreFileSteps c.args.file (length (bytes_before c.args.parts.now c.args.file)) c.args.parts.now.micros.ops
    c.index.result.now =
    are c.args.parts.now c.requires.parts c.args.file c.requires.known c.args.members.now c.requires.set c.index.result.now c.index.ensures
    c.requires.changed in
    first_under c.args.parts.now.micros (length c.args.parts.now.micros.ops) c.args.members.now c.requires.set.allowed
    (resizes c.args.file) (size_needed c.args.parts.now.micros c.args.file) c.deref.result.now (c.deref.ensures.value ∙ steps.sizes)

pub returns : goal.returns
returns c =
    c.size_after_members.ensures
    ∙ (λ i. fold (size_after c.args.file) (c.requires.size i) (map (op_at (c.ops.ensures.value i)) (members_in c.args.members.now)))
    ∙ sym (size_is c.args.parts.now c.requires.parts c.args.file c.requires.known c.args.members.now c.requires.set)
