use Rattle.cs_apm.proofs.EarlierLaw.{as_before}
use Rattle.cs_apm.proofs.laws.earlier_versions_keep_their_states.Goals as goal

pub earlier_versions_break_up_as_before-requires : goal.earlier_versions_break_up_as_before-requires
earlier_versions_break_up_as_before-requires c = c.requires.version

pub returns : goal.returns
returns c =
    as_before c.args.trace.now c.requires c.operations.ensures.tree c.operations.ensures.legal c.file_count.ensures.small
    c.nodes.ensures.each
    c.records.ensures.ascending c.earlier_versions_break_up_as_before.ensures
