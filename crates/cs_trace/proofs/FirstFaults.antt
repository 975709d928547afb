-- The fault of a trace is the first of its line, and the lines before have none.
use Rattle.std.proofs.Common.{◌≡◌, ℕ, suc, ◌+◌, ◌-◌, ◌<◌, List, [], ◌∷◌, length, take, inl, inr}
use Rattle.std.proofs.Common.{Result, Ok, Err, refl, sym, ap, ◌∙◌, arith}
use Rattle.std.specs.List.{slice_index_or}
use Rattle.std.specs.Result.{result_err}
use Rattle.cs_trace.specs.Checks.{IsFaultOf}
use Rattle.cs_trace.specs.Judging.{and_then}
use Rattle.cs_trace.specs.State.{State, empty_state}
use Rattle.cs_trace.specs.States.{at_line, state_from, state_in, step}
use Rattle.cs_trace.specs.declared.fault.TraceFault.{TraceFault}
use Rattle.cs_trace.specs.declared.fault.TraceFaultKind.{TraceFaultKind}
use Rattle.cs_trace.specs.declared.fault.TraceFaultKind.TheVariants.{Syntax}
use Rattle.cs_trace.proofs.FirstChecks.{step_tells}

-- the fault of lines that follow a state, the first of which has that number
record FaultFrom (s : State) (number : ℕ) (lines : List (List ℕ)) (fault : TraceFault) : Type 0 where
  place : ℕ
  low : place < length lines
  line : fault.line ≡ number + place
  state : State
  before : state_from s number (take place lines) ≡ Ok state
  kind : step state (slice_index_or lines place []) ≡ Err fault.kind

here_by : (s : State) (number : ℕ) (text : List ℕ) (lines : List (List ℕ)) (kind : TraceFaultKind) (fault : TraceFault)
    → step s text ≡ Err kind → at_line number (Err kind) ≡ Err fault → FaultFrom s number (text ∷ lines) fault
here_by s number text lines kind fault is same =
    let whole : record { line = number; kind = kind } ≡ fault = cc in
    record {
      place = 0;
      low = omega arith;
      line = sym (ap (λ (f : TraceFault). f.line) whole) ∙ no_more;
      state = s;
      before = refl;
      kind = is ∙ ap (λ (f : TraceFault). Err f.kind) whole;
    }
  where
    no_more : number ≡ number + 0
    no_more = omega arith

later_by : (s next : State) (number : ℕ) (text : List ℕ) (lines : List (List ℕ)) (fault : TraceFault)
    → step s text ≡ Ok next → FaultFrom next (number + 1) lines fault → FaultFrom s number (text ∷ lines) fault
later_by s next number text lines fault is rest = record {
  place = suc rest.place;
  low = let low = rest.low in omega arith;
  line = let line = rest.line in omega arith;
  state = rest.state;
  before = ap (λ r. and_then (at_line number r) (λ n. state_from n (number + 1) (take rest.place lines))) is ∙ rest.before;
  kind = rest.kind;
}

step_by : (s : State) (number : ℕ) (text : List ℕ) (lines : List (List ℕ)) (fault : TraceFault) (r : Result State TraceFaultKind)
    → step s text ≡ r
    → ((next : State) → state_from next (number + 1) lines ≡ Err fault → FaultFrom next (number + 1) lines fault)
    → and_then (at_line number r) (λ next. state_from next (number + 1) lines) ≡ Err fault → FaultFrom s number (text ∷ lines) fault
step_by s number text lines fault (Ok next) is rest faulty = later_by s next number text lines fault is (rest next faulty)
step_by s number text lines fault (Err kind) is rest faulty = here_by s number text lines kind fault is faulty

fault_from : (lines : List (List ℕ)) (s : State) (number : ℕ) (fault : TraceFault) → state_from s number lines ≡ Err fault
    → FaultFrom s number lines fault
fault_from [] s number fault faulty = absurd (cc)
fault_from (text ∷ lines) s number fault faulty =
    step_by s number text lines fault (step s text) refl (λ next is. fault_from lines next (number + 1) fault is) faulty

pub first_of : (lines : List (List ℕ)) (fault : TraceFault) → state_in lines ≡ Err fault → IsFaultOf lines fault
first_of lines fault faulty =
    let found = fault_from lines empty_state 1 fault faulty in
    let at : found.place ≡ fault.line - 1 = let line = found.line in omega arith in
    inl (record {
      above = let line = found.line in omega arith;
      among = let line = found.line in let low = found.low in omega arith;
      state = found.state;
      before = ap (λ n. state_in (take n lines)) (sym at) ∙ found.before;
      first =
          sym (step_tells found.state (slice_index_or lines (fault.line - 1) []))
          ∙ ap (λ n. result_err (step found.state (slice_index_or lines n []))) (sym at)
          ∙ ap result_err found.kind;
    })

pub no_header_of : (lines : List (List ℕ)) (s : State) → state_in lines ≡ Ok s → s.made ≡ 0
    → IsFaultOf lines (record { line = 1; kind = Syntax })
no_header_of lines s read none = inr (record { state = s; before = read; none = none; first = refl })
