use Rattle.std.proofs.Common.{sym, ◌∙◌}
use Rattle.cs_start.proofs.Beneath.{below-first, below-none}
use Rattle.cs_start.proofs.Views.{entries-keyed}
use Rattle.cs_start.proofs.by_path.has_below.Goals as goal

pub returns-in-None : goal.returns-in-None
returns-in-None c =
    let es = c.args.by_path.now.entries in
    record {
      value = below-none c.args.path.now es (sym (c.range.ensures.between tt) ∙ c.in-None.ensures.steps.0);
      order = entries-keyed es c.range.ensures.ordered;
    }

pub returns-in-Some : goal.returns-in-Some
returns-in-Some c =
    let es = c.args.by_path.now.entries in
    record {
      value =
          c.begins_with.ensures
          ∙ below-first c.args.path.now es _ _ _ c.range.ensures.ordered (sym (c.range.ensures.between tt) ∙ c.in-Some.ensures.steps);
      order = entries-keyed es c.range.ensures.ordered;
    }
