use Rattle.std.proofs.Common.{IfSome, sym, ap, ◌∙◌, subst}
use Rattle.std.specs.Option.{is_some}
use Rattle.cs_permit.specs.Rules.{file_at}
use Rattle.cs_permit.specs.Shown.{stat_of_file}
use Rattle.cs_permit.specs.Sizes.{IsStat}
use Rattle.cs_run.proofs.Trees.{name_leads, some_mapped}
use Rattle.cs_tree_model.specs.Nexts.{entry_name}
use Rattle.cs_tree_model.specs.Record.{metadata_of}
use Rattle.cs_tree_model.specs.Tree.{record_numbered}
use Rattle.cs_wire.specs.Messages.{IsEntry, stat_in as fields_of}
use Rattle.cs_run.proofs.page.stat_of_entry.Goals as goal

pub unwrap-requires : goal.unwrap-requires
unwrap-requires g c =
    let t = g.T.TreeRead.tree c.args.tree.now in
    sym (some_mapped fields_of c.entry_stat.result) ∙ ap is_some c.entry_stat.ensures.value
    ∙ some_mapped (stat_of_file (entry_name c.args.entry)) (file_at t c.args.entry.number)
    ∙ some_mapped metadata_of (record_numbered t c.args.entry.number)
    ∙ name_leads t c.requires.is_tree c.args._directory (entry_name c.args.entry) c.args.entry.number c.requires.found

pub returns-clause-entry : goal.returns-clause-entry
unfolding IsEntry
returns-clause-entry g c = (subst (λ o. IfSome o (λ s. IsStat 600 (fields_of s))) c.unwrap.ensures c.entry_stat.ensures.fits).fits
