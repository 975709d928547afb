-- The lines of a trace, one more at a time.
use Rattle.std.proofs.Common.{◌≡◌, ℕ, ◌+◌, ◌-◌, ◌<◌, ◌≤◌, false, List, [], ◌∷◌, ◌++◌, length, get_or, take, drop, Result, Ok, Err, IsOk}
use Rattle.std.proofs.Common.{refl, sym, ap, ◌∙◌, arith}
use Rattle.std.proofs.lemmas.List.{take_more, take_all, take-append-drop, length-take, get_or_default}
use Rattle.std.proofs.lemmas.List.FromFn.{length-enumerate_from, get_or-enumerate_from}
use Rattle.std.proofs.lemmas.Bool.{false≢true}
use Rattle.cs_trace.specs.Judging.{and_then}
use Rattle.cs_trace.specs.Traces.{MayWant, trace_by}
use Rattle.std.specs.List.{enumerate_from}
use Rattle.std.specs.Result.{is_ok}
use Rattle.cs_trace_lines.specs.Values.{is_blank}
use Rattle.cs_trace.specs.State.{State, empty_state}
use Rattle.cs_trace.specs.States.{at_line, state_from, state_in, step}
use Rattle.cs_trace.specs.declared.fault.TraceFault.{TraceFault}
use Rattle.cs_trace.specs.declared.fault.TraceFaultKind.{TraceFaultKind}

-- some lines, and then more
appended_by : (r : Result State TraceFault) (n k : ℕ) (lines more : List (List ℕ)) → n + 1 + length lines ≡ k
    → ((next : State) → state_from next (n + 1) (lines ++ more) ≡ and_then (state_from next (n + 1) lines)
    (λ last. state_from last (n + 1 + length lines) more))
    → and_then r (λ next. state_from next (n + 1) (lines ++ more)) ≡ and_then (and_then r (λ next. state_from next (n + 1) lines))
    (λ last. state_from last k more)
appended_by (Ok next) n k lines more is rest =
    rest next ∙ ap (λ i. and_then (state_from next (n + 1) lines) (λ last. state_from last i more)) is
appended_by (Err fault) n k lines more is rest = refl

state_from-append : (m : State) (n : ℕ) (lines more : List (List ℕ))
    → state_from m n (lines ++ more) ≡ and_then (state_from m n lines) (λ last. state_from last (n + length lines) more)
state_from-append m n [] more = let same : n ≡ n + 0 = omega arith in ap (λ i. state_from m i more) same
state_from-append m n (text ∷ lines) more =
    appended_by (at_line n (step m text)) n (n + length (text ∷ lines)) lines more (omega arith)
    (λ next. state_from-append next (n + 1) lines more)

module _ (m : State) (i : ℕ) (all : List (List ℕ)) (line : List ℕ) (low : i < length all) (is : line ≡ get_or all i line)
    (before : state_in (take i all) ≡ Ok m) where
  -- what this line and those before it give
  one_more : (r : Result State TraceFaultKind) → step m line ≡ r → state_in (take (i + 1) all) ≡ and_then (at_line (i + 1) r) Ok
  one_more r does =
      let number : 1 + length (take i all) ≡ i + 1 = omega (arith, length-take i all) in
      ap state_in (take_more all i line low)
      ∙ state_from-append empty_state 1 (take i all) (get_or all i line ∷ [])
      ∙ ap (λ q. and_then q (λ last. state_from last (1 + length (take i all)) (get_or all i line ∷ []))) before
      ∙ ap (λ n. and_then (at_line n (step m (get_or all i line))) Ok) number
      ∙ ap (λ q. and_then (at_line (i + 1) q) Ok) (ap (step m) (sym is) ∙ does)

  pub goes_on : (next : State) → step m line ≡ Ok next → state_in (take (i + 1) all) ≡ Ok next
  goes_on next does = one_more (Ok next) does

  pub stops : (kind : TraceFaultKind) → step m line ≡ Err kind → state_in all ≡ Err (record { line = i + 1; kind = kind })
  stops kind does =
      ap state_in (sym (take-append-drop (i + 1) all))
      ∙ state_from-append empty_state 1 (take (i + 1) all) (drop (i + 1) all)
      ∙ ap (λ q. and_then q (λ last. state_from last (1 + length (take (i + 1) all)) (drop (i + 1) all))) (one_more (Err kind) does)

pub ends : (m : State) (i : ℕ) (all : List (List ℕ)) → length all ≤ i → state_in (take i all) ≡ Ok m → state_in all ≡ Ok m
ends m i all high before = ap state_in (sym (take_all i all high)) ∙ before

-- ---- where a loop over the numbered lines is

pub record IsTurn (all : List (List ℕ)) (done i : ℕ) (line : List ℕ) : Type 0 where
  pub number : done ≡ i
  pub low : i < length all
  pub is : line ≡ get_or all i line

pub turn : (all : List (List ℕ)) (done i : ℕ) (line : List ℕ) → (done < length (enumerate_from 0 all))
    × ((i, line) ≡ get_or (enumerate_from 0 all) done (i, line)) → IsTurn all done i line
turn all done i line at =
    let low : done < length all = omega (arith, length-enumerate_from 0 all, at.0) in
    let pair : (i, line) ≡ (0 + done, get_or all done line) = at.1 ∙ get_or-enumerate_from 0 all done (i, line) low in
    let first : i ≡ 0 + done = ap (λ (p : ℕ × List ℕ). p.0) pair in
    let number : done ≡ i = omega arith in
    record { number = number; low = omega arith; is = ap (λ (p : ℕ × List ℕ). p.1) pair ∙ ap (λ k. get_or all k line) number }

-- ---- where memory may be wanted

prefix_by : (r : Result State TraceFault) (f : State → Result State TraceFault) → IsOk (and_then r f) → IsOk r
prefix_by (Ok m) f ok = refl
prefix_by (Err fault) f ok = absurd (cc)

pub prefix_ok : (i : ℕ) (all : List (List ℕ)) → IsOk (state_in all) → IsOk (state_in (take i all))
prefix_ok i all ok =
    prefix_by (state_in (take i all)) (λ last. state_from last (1 + length (take i all)) (drop i all))
    (ap is_ok (sym (ap state_in (sym (take-append-drop i all)) ∙ state_from-append empty_state 1 (take i all) (drop i all))) ∙ ok)

pub MayWant-line : (m : State) (i : ℕ) (all : List (List ℕ)) (line : List ℕ) → i < length all → line ≡ get_or all i line
    → state_in (take i all) ≡ Ok m → is_blank line ≡ false → MayWant all (i + 1)
MayWant-line m i all line low is before says =
    let at : i + 1 - 1 ≡ i = omega arith in
    record {
      above = omega arith;
      among = omega arith;
      before = ap (λ k. is_ok (state_in (take k all))) at ∙ ap is_ok before;
      blank =
          λ blank. absurd (false≢true (sym says ∙ ap is_blank (is ∙ get_or_default all i line [] low ∙ ap (λ k. get_or all k []) (sym at))
          ∙ blank));
    }

pub MayWant-last : (all : List (List ℕ)) → 0 < length all → IsOk (state_in all) → IsOk (trace_by all) → MayWant all (length all)
MayWant-last all some ok start =
    record { above = some; among = omega arith; before = prefix_ok (length all - 1) all ok; blank = λ _. (refl, start) }
