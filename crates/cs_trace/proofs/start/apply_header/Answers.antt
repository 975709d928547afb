use Rattle.std.proofs.Common.{[], ap, ◌∙◌}
use Rattle.std.specs.FinMap.{get, get-empty}
use Rattle.cs_tree_model.specs.Tree.{path_cmp}
use Rattle.cs_trace.specs.State.{State}
use Rattle.cs_trace.proofs.start.apply_header.Goals as goal

pub put_root-requires-clause-free : goal.put_root-requires-clause-free
put_root-requires-clause-free c =
    ap (λ (s : State). get s.start []) (c.requires.bounded.fresh c.requires.first) ∙ get-empty path_cmp []
