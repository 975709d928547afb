use Rattle.std.proofs.Common.{Err, ap, sym, ◌∙◌}
use Rattle.std.proofs.lemmas.Result.{err_from_is_err_and}
use Rattle.std.specs.FinMap.{get}
use Rattle.cs_trace.specs.Kept.{free_number, state_of}
use Rattle.cs_trace.specs.States.{start_file_at, start_link_at}
use Rattle.cs_trace.proofs.Claimed.{leaves_fault}
use Rattle.cs_trace.proofs.Made.{fails_by}
use Rattle.cs_trace.proofs.Starting.{start_refused}
use Rattle.cs_trace.proofs.start.add_link.Goals as goal

pub returns-in_err-directory : goal.returns-in_err-directory
returns-in_err-directory c =
    let s = state_of c.args.state.now in
    let from = c.args.from.now in
    let to = c.args.to.now in
    let left = c.from_residual-in_err-directory in
    let p = err_from_is_err_and left.result left.ensures.1 in
    leaves_fault left.result s _ (p.1 ∙ ap Err p.2)
    (fails_by (start_link_at s from to) _
    (start_refused s from to _ _
    (ap (λ q. start_file_at (get s.start q)) (sym c.in_ok-path.ensures) ∙ c.in_ok-entry.ensures.file)
    (ap (free_number s.system.entries) (sym c.in_ok-path-2.ensures) ∙ sym c.in_err-directory.ensures)))
