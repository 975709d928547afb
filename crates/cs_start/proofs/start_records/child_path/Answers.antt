use Rattle.std.proofs.Common.{[], ◌∷◌, ◌++◌, ap}
use Rattle.std.specs.Prelude.{string_bytes}
use Rattle.cs_start.proofs.Recorded.{path_decides}
use Rattle.cs_start.proofs.start_records.child_path.Goals as goal

pub returns-then-eq-clause-value : goal.returns-then-eq-clause-value
returns-then-eq-clause-value c =
    ap (λ d. d ++ string_bytes c.args.name ∷ [])
    ((path_decides c.args.own.now c.args.directory.now c.eq.result c.eq.ensures).0 c.if-eq.true)
