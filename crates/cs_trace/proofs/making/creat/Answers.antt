use Rattle.std.proofs.Common.{Err, ap, sym, subst, ◌∙◌}
use Rattle.std.proofs.lemmas.Result.{err_from_is_err_and}
use Rattle.std.specs.String.{string_bytes}
use Rattle.cs_trace.specs.Judging.{creat}
use Rattle.cs_trace.specs.Kept.{Freely, state_of}
use Rattle.cs_trace.specs.Outcomes.{Gives}
use Rattle.cs_trace_lines.specs.Said.{claims_of}
use Rattle.cs_trace.proofs.Claimed.{gives_fault, path_fails, rights_fail, rights_refused, with_rights}
use Rattle.cs_trace.proofs.making.creat.Goals as goal

pub returns : goal.returns
returns c =
    let s = state_of c.args.state.now in
    let claims = claims_of c.args.claims in
    subst (λ e. Gives e c.creat_at.result Freely)
    (sym (with_rights (λ p k. creat s p k) claims c.args.text.now _ _
    (sym c.in_ok-path.ensures) (sym c.in_ok-rights.ensures)))
    c.creat_at.ensures

pub returns-in_err-path : goal.returns-in_err-path
returns-in_err-path c =
    let s = state_of c.args.state.now in
    let claims = claims_of c.args.claims in
    let p = err_from_is_err_and c.from_residual.result c.from_residual.ensures.1 in
    gives_fault c.from_residual.result _ (p.1 ∙ ap Err p.2)
    (path_fails (λ p k. creat s p k) claims c.args.text.now _ (sym c.in_err-path.ensures))

pub returns-in_err-rights : goal.returns-in_err-rights
returns-in_err-rights c =
    let s = state_of c.args.state.now in
    let claims = claims_of c.args.claims in
    let p = err_from_is_err_and c.from_residual-in_err-rights.result c.from_residual-in_err-rights.ensures.1 in
    gives_fault c.from_residual-in_err-rights.result _ (p.1 ∙ ap Err p.2)
    (rights_fail (λ p k. creat s p k) claims c.args.text.now _ _ (sym c.in_ok-path.ensures)
    (rights_refused claims _ (sym c.in_err-rights.ensures)))
