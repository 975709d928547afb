use Rattle.std.proofs.Common.{ap, ◌∙◌}
use Rattle.std.specs.FinMap as map
use Rattle.std.specs.Option.{is_some}
use Rattle.cs_start.proofs.Views.{get-keyed, insert-keyed}
use Rattle.cs_start.proofs.by_path.insert_in_map.Goals as goal

pub returns : goal.returns
returns c =
    let es = c.args.by_path.now.entries in
    record {
      replaced = c.is_some.ensures ∙ ap is_some (c.in_ok-before.ensures.old ∙ get-keyed es c.args.path);
      state = ap map.from_entries c.in_ok-before.ensures.entries ∙ insert-keyed es c.args.path c.args.entry;
      err = tt;
    }
