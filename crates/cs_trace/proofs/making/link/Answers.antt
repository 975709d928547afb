use Rattle.std.proofs.Common.{Err, ap, sym, ◌∙◌}
use Rattle.std.proofs.lemmas.Result.{err_from_is_err_and}
use Rattle.cs_entries.specs.Paths.{at_path}
use Rattle.cs_entries.specs.Tables.{held_in}
use Rattle.cs_trace.specs.Judging.{file_by, link}
use Rattle.cs_trace.specs.Kept.{free_number, state_of}
use Rattle.cs_trace.proofs.Claimed.{gives_fault}
use Rattle.cs_trace.proofs.Made.{fails_by, link_refused}
use Rattle.cs_trace.proofs.making.link.Goals as goal

pub returns-in_err-directory : goal.returns-in_err-directory
returns-in_err-directory c =
    let s = state_of c.args.state.now in
    let from = c.args.from.now in
    let to = c.args.to.now in
    let left = c.from_residual-in_err-directory in
    let p = err_from_is_err_and left.result left.ensures.1 in
    gives_fault left.result _ (p.1 ∙ ap Err p.2)
    (fails_by (link s from to) _
    (link_refused s from to _ _
    (ap (λ q. file_by (at_path (held_in s.system.entries) q)) (sym c.in_ok-path.ensures) ∙ sym c.in_ok-file.ensures)
    (ap (free_number s.system.entries) (sym c.in_ok-path-2.ensures) ∙ sym c.in_err-directory.ensures)))
