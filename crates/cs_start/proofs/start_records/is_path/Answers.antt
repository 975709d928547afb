use Rattle.std.proofs.Common.{◌≡◌, sym, subst}
use Rattle.std.specs.Bool.{Decides}
use Rattle.cs_start.specs.Starts.{whole_path}
use Rattle.cs_start.specs.declared.start_records.StartPath.{StartPath}
use Rattle.cs_start.proofs.Recorded.{path_decides}
use Rattle.cs_start.proofs.start_records.is_path.Goals as goal

pub returns-in-Whole : goal.returns-in-Whole
returns-in-Whole c =
    subst (λ (o : StartPath). Decides c.eq.result (c.args.path.now ≡ whole_path c.args.directory.now o)) (sym c.in-Whole.is)
    (path_decides c.args.path.now c.in-Whole.whole c.eq.result c.eq.ensures)
