use Rattle.std.proofs.Common.{Err, ap, sym, ◌∙◌}
use Rattle.std.proofs.lemmas.Result.{err_from_is_err_and}
use Rattle.cs_start.specs.Names.{entry_path_of}
use Rattle.cs_trace.specs.Judging.{or_bad_name}
use Rattle.cs_trace.specs.Kept.{state_of}
use Rattle.cs_trace.specs.States.{start_at}
use Rattle.cs_trace_lines.specs.Said.{start_of}
use Rattle.cs_trace.proofs.Claimed.{leaves_fault, rights_fail}
use Rattle.cs_trace.proofs.start.apply_start.Goals as goal

pub returns-in_err-rights : goal.returns-in_err-rights
returns-in_err-rights c =
    let s = state_of c.args.state.now in
    let said = start_of c.args.line in
    let spelled = ap or_bad_name (ap entry_path_of (sym c.deref.ensures) ∙ c.in-Some.ensures.path) in
    let left = c.from_residual in
    let p = err_from_is_err_and left.result left.ensures.1 in
    leaves_fault left.result _ _ (p.1 ∙ ap Err p.2)
    (rights_fail (λ p claims. start_at s p claims said.content) said.claims said.path _ _ spelled c.in_err-rights.ensures)

pub returns-in_err-rights-2 : goal.returns-in_err-rights-2
returns-in_err-rights-2 c =
    let s = state_of c.args.state.now in
    let said = start_of c.args.line in
    let spelled = ap (λ text. or_bad_name (entry_path_of text)) (sym c.deref-2.ensures) in
    let left = c.from_residual-in_err-rights-2 in
    let p = err_from_is_err_and left.result left.ensures.1 in
    leaves_fault left.result _ _ (p.1 ∙ ap Err p.2)
    (rights_fail (λ p claims. start_at s p claims said.content) said.claims said.path _ _ (spelled ∙ sym c.in_ok-text.ensures)
    c.in_err-rights-2.ensures)
