use Rattle.std.proofs.Common.{◌≡◌, ◌≢◌, ℕ, ◌<◌, ◌==◌, List, false, Ok, Err, length, refl, sym, ap, ◌∙◌, subst, arith}
use Rattle.std.proofs.lemmas.List.Splits.{length-slice_split}
use Rattle.std.proofs.lemmas.Result.{err_from_is_err_and}
use Rattle.std.specs.Result.{is_ok}
use Rattle.cs_trace.specs.Judging.{and_then}
use Rattle.cs_trace.specs.State.{State}
use Rattle.cs_trace.specs.States.{lines_in, state_in}
use Rattle.cs_trace.specs.Traces.{MayWant, trace_by, trace_in, trace_of, trace_of_state}
use Rattle.cs_trace.specs.declared.fault.TraceFaultKind.TheVariants.{Syntax}
use Rattle.cs_trace.proofs.FirstFaults.{first_of, no_header_of}
use Rattle.cs_trace.proofs.LineByLine.{MayWant-last}
use Rattle.cs_trace.proofs.SoundAll.{trace_whole}
use Rattle.cs_trace.proofs.trace.read_trace.Goals as goal

module _ (lines : List (List ℕ)) (s : State) (read : state_in lines ≡ Ok s) where
  no_header : s.made ≡ 0 → trace_by lines ≡ Err (record { line = 1; kind = Syntax })
  no_header none = ap (λ r. and_then r trace_of) read ∙ rw none refl

  not_zero : s.made ≢ 0 → s.made == 0 ≡ false
  not_zero made = grind arith

  a_trace : s.made ≢ 0 → trace_by lines ≡ Ok (trace_of_state s)
  a_trace made = ap (λ r. and_then r trace_of) read ∙ rw (not_zero made) refl

  last_line : s.made ≢ 0 → 0 < length lines → MayWant lines (length lines)
  last_line made cut = MayWant-last lines cut (ap is_ok read) (ap is_ok (a_trace made))

pub returns-in_err-state-clause-fault : goal.returns-in_err-state-clause-fault
unfolding trace_in
returns-in_err-state-clause-fault c =
    let gone = err_from_is_err_and c.from_residual.result c.from_residual.ensures.1 in
    rw (gone.1, gone.2) (λ other. ap (λ r. and_then r trace_of) (c.in_err-state.ensures.fault other))

pub returns-in_err-state-clause-first : goal.returns-in_err-state-clause-first
returns-in_err-state-clause-first c =
    let gone = err_from_is_err_and c.from_residual.result c.from_residual.ensures.1 in
    rw (gone.1, gone.2) (λ other. first_of (lines_in c.args.text.now) _ (c.in_err-state.ensures.fault other))

pub returns-then-state-eq0-clause-first : goal.returns-then-state-eq0-clause-first
returns-then-state-eq0-clause-first c = λ _. no_header_of (lines_in c.args.text.now) _ c.in_ok-state.ensures.done c.if-state-eq0.true

pub returns-then-state-eq0-clause-fault : goal.returns-then-state-eq0-clause-fault
unfolding trace_in
returns-then-state-eq0-clause-fault c = λ _. no_header (lines_in c.args.text.now) _ c.in_ok-state.ensures.done c.if-state-eq0.true

pub returns-in_default-clause-memory : goal.returns-in_default-clause-memory
returns-in_default-clause-memory c = λ _.
    let lines = lines_in c.args.text.now in
    let some : 0 < length lines = omega (arith, length-slice_split (λ b. b == 10) c.args.text.now) in
    subst (MayWant lines) (sym c.line_count.ensures) (last_line lines _ c.in_ok-state.ensures.done c.if-state-eq0.false some)

pub returns-clause-done : goal.returns-clause-done
unfolding trace_in
returns-clause-done c = a_trace (lines_in c.args.text.now) _ c.in_ok-state.ensures.done c.if-state-eq0.false ∙ ap Ok (sym c.in-Ok.ensures)

pub trace_of_state-requires : goal.trace_of_state-requires
trace_of_state-requires c = trace_whole (lines_in c.args.text.now) _ c.in_ok-state.ensures.done c.if-state-eq0.false
