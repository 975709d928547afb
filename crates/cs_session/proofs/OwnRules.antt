-- The error of a step that a connection refuses by itself is the first of its rules that fails.
use Rattle.std.proofs.Common.{◌≡◌, ℕ, Bool, true, false, List, [], ◌∷◌, ◌++◌, Option, None, Some, Err, append_assoc, refl, sym, ap, subst}
use Rattle.std.proofs.Common.{◌∙◌}
use Rattle.std.specs.Prelude.{Result, Ok, is_none, is_some, nat_lt, if◌then◌else◌}
use Rattle.cs_fids.specs.Tables.{least_open}
use Rattle.cs_names.specs.declared.limits.TheConstants.{LEAST_MESSAGE_SIZE}
use Rattle.cs_names.specs.declared.rule_id.RuleId.{RuleId}
use Rattle.cs_names.specs.declared.rule_id.RuleId.TheVariants.{S1, S4, S5}
use Rattle.cs_permit.specs.Refusals.{Check, IsFirstToFail, first_failing}
use Rattle.cs_permit.specs.Table.{attach_table_rules}
use Rattle.cs_session.specs.Attaches.{attach_decision, find_decision, find_question}
use Rattle.cs_session.specs.Calls.{call_decision, call_question, call_rules, wants_memory}
use Rattle.cs_session.specs.Decisions.{after_session, decide}
use Rattle.cs_session.specs.OwnRules.{change_rules, own_rules, with_question}
use Rattle.cs_session.specs.Questions.{Question}
use Rattle.cs_session.specs.Removes.{close_decision, close_question}
use Rattle.cs_session.specs.Sessions.{Awaited, SessionState, empty_session, with_fids}
use Rattle.cs_session.specs.Steps.{Step, FindStep, AttachStep, CallStep, CloseStep, Table, Done, first_move_by, first_move_of}
use Rattle.cs_session.specs.TableSteps.{clunk_left, clunk_reply, clunk_rules, table_stepped}
use Rattle.cs_session.specs.Versions.{agreed_size, is_spoken, session_size}
use Rattle.cs_session.specs.declared.message.TableStep.{TableStep}
use Rattle.cs_session.specs.declared.message.TableStep.TheVariants as t
use Rattle.cs_session.specs.declared.reply.Reply.{Reply}
use Rattle.cs_session.specs.declared.reply.Reply.TheVariants as r

-- ---- the first of a list that fails

after_pass : (head : RuleId) (checks : List Check) (rule : RuleId) → IsFirstToFail checks rule → IsFirstToFail ((head, false) ∷ checks) rule
after_pass head checks rule first = record {
  passed = (head, false) ∷ first.passed;
  later = first.later;
  list_is = ap (λ cs. (head, false) ∷ cs) first.list_is;
  none_before = (refl, first.none_before);
}

first_by : (head : RuleId) (fails : Bool) (checks : List Check) (rule : RuleId)
    → (if fails then Some head else first_failing checks) ≡ Some rule → (first_failing checks ≡ Some rule → IsFirstToFail checks rule)
    → IsFirstToFail ((head, fails) ∷ checks) rule
first_by head true checks rule is later = let same : head ≡ rule = cc in
    subst (λ (x : RuleId). IsFirstToFail ((head, true) ∷ checks) x) same (record {
      passed = [];
      later = checks;
      list_is = refl;
      none_before = tt;
    })
first_by head false checks rule is later = after_pass head checks rule (later is)

pub first_to_fail : (checks : List Check) (rule : RuleId) → first_failing checks ≡ Some rule → IsFirstToFail checks rule
first_to_fail [] rule is = absurd cc
first_to_fail (check ∷ checks) rule is = first_by check.0 check.1 checks rule is (first_to_fail checks rule)

-- ---- a decision

refused_by : (session left : SessionState) (r : Result Question Reply) (reply : Reply) → first_move_of session r ≡ Done reply left
    → r ≡ Err reply
refused_by session left (Err x) reply is = let same : x ≡ reply = cc in ap (λ (y : Reply). Err y) same
refused_by session left (Ok q) reply is = absurd cc

-- rules of which one fails, with any after them
first_with : (checks : List Check) (last : List Check) (rule : RuleId) → IsFirstToFail checks rule → IsFirstToFail (checks ++ last) rule
first_with checks last rule first =
    subst (λ (cs : List Check). IsFirstToFail (cs ++ last) rule) (sym first.list_is)
    (record {
      passed = first.passed;
      later = first.later ++ last;
      list_is = append_assoc first.passed ((rule, true) ∷ first.later) last;
      none_before = first.none_before;
    })

-- rules of which none fails, and then one that does
none_by : (head : RuleId) (fails : Bool) (checks : List Check) (rule : RuleId) → (if fails then Some head else first_failing checks) ≡ None
    → (first_failing checks ≡ None → first_failing (checks ++ (rule, true) ∷ []) ≡ Some rule)
    → (if fails then Some head else first_failing (checks ++ (rule, true) ∷ [])) ≡ Some rule
none_by head true checks rule none later = absurd cc
none_by head false checks rule none later = later none

none_then : (checks : List Check) (rule : RuleId) → first_failing checks ≡ None → first_failing (checks ++ (rule, true) ∷ []) ≡ Some rule
none_then [] rule none = refl
none_then (check ∷ checks) rule none = none_by check.0 check.1 checks rule none (none_then checks rule)

decides : (checks : List Check) (failing : Option RuleId) (refused : Bool) (q : Option Question) (rule : RuleId)
    → failing ≡ first_failing checks → decide failing refused q ≡ Err (r.Error rule) → IsFirstToFail (with_question checks q) rule
decides checks (Some first) refused q rule is decided = let same : first ≡ rule = cc in
    first_with checks ((S5, is_none q) ∷ []) rule (first_to_fail checks rule (sym is ∙ ap (λ (x : RuleId). Some x) same))
decides checks None true q rule is decided = absurd cc
decides checks None false (Some q) rule is decided = absurd cc
decides checks None false None rule is decided =
    let same : S5 ≡ rule = cc in
    subst (λ (x : RuleId). IsFirstToFail (with_question checks None) x) same
    (first_to_fail (with_question checks None) S5 (none_then checks S5 (sym is)))

-- ---- steps

attach_first : (awaited : Option Awaited) (now : ℕ) (rule : RuleId) → attach_decision now awaited ≡ Err (r.Error rule)
    → IsFirstToFail ((S5, is_none awaited) ∷ []) rule
attach_first None now rule is = let same : S5 ≡ rule = cc in
    subst (λ (x : RuleId). IsFirstToFail ((S5, true) ∷ []) x) same (first_to_fail ((S5, true) ∷ []) S5 refl)
attach_first (Some awaited) now rule is = absurd cc

-- ---- steps that change only the table

abbrev replied : Reply × SessionState → Reply
replied answered = answered.0

of_failing : (o : Option RuleId) (rule : RuleId) → clunk_reply o ≡ r.Error rule → o ≡ Some rule
of_failing None rule is = absurd cc
of_failing (Some first) rule is = cc

clunk_first : (awaits none : Bool) (rules : List Check) (session left : SessionState) (rule : RuleId)
    → replied
    (if awaits then (r.Error S5, session)
    else (if none then (r.Error S1, session) else (clunk_reply (first_failing rules), left))) ≡ r.Error rule
    → first_failing ((S5, awaits) ∷ (S1, none) ∷ rules) ≡ Some rule
clunk_first true none rules session left rule is = cc
clunk_first false true rules session left rule is = cc
clunk_first false false rules session left rule is = of_failing (first_failing rules) rule is

version_first : (awaits opens small : Bool) (session left : SessionState) (size : ℕ) (spoken : Bool) (rule : RuleId)
    → replied
    (if awaits then (r.Error S5, session)
    else (if opens then (r.Error S5, session) else ((if small then r.Error S4 else r.Version size spoken), left))) ≡ r.Error rule
    → first_failing ((S5, awaits) ∷ (S5, opens) ∷ (S4, small) ∷ []) ≡ Some rule
version_first true opens small session left size spoken rule is = cc
version_first false true small session left size spoken rule is = cc
version_first false false true session left size spoken rule is = cc
version_first false false false session left size spoken rule is = absurd cc

hang_up_first : (awaits opens : Bool) (session left : SessionState) (rule : RuleId)
    → replied (if awaits then (r.Error S5, session) else (if opens then (r.Error S5, session) else (r.Closed, left))) ≡ r.Error rule
    → first_failing ((S5, awaits) ∷ (S5, opens) ∷ []) ≡ Some rule
hang_up_first true opens session left rule is = cc
hang_up_first false true session left rule is = cc
hang_up_first false false session left rule is = absurd cc

table_first : (session : SessionState) (change : TableStep) (rule : RuleId) → (table_stepped session change).0 ≡ r.Error rule
    → first_failing (change_rules session change) ≡ Some rule
table_first session (t.Clunk fid) rule is =
    let rules : List Check = clunk_rules session.fids fid in
    clunk_first (is_some session.awaited) (is_none session.msize) rules session
    (with_fids (clunk_left session.fids fid (first_failing rules)) session) rule is
table_first session (t.Version msize version) rule is =
    version_first (is_some session.awaited) (is_some (least_open session.fids)) (nat_lt msize LEAST_MESSAGE_SIZE) session
    (empty_session (session_size msize version)) (agreed_size msize) (is_spoken version) rule is
table_first session t.HangUp rule is =
    hang_up_first (is_some session.awaited) (is_some (least_open session.fids)) session (empty_session None) rule is

-- ---- any step

pub first_rule : (now : ℕ) (session left : SessionState) (step : Step) (refused : Bool) (rule : RuleId)
    → first_move_by now session step refused ≡ Done (r.Error rule) left → IsFirstToFail (own_rules now session step) rule
first_rule now session left (FindStep m) refused rule is =
    let rules : List Check = after_session (is_some session.awaited) session.msize (attach_table_rules session.fids m.fid m.afid m.aname) in
    decides rules (first_failing rules) refused (find_question m) rule refl
    (refused_by session left (find_decision (is_some session.awaited) session.msize session.fids m refused) (r.Error rule) is)
first_rule now session left AttachStep refused rule is =
    attach_first session.awaited now rule (refused_by session left (attach_decision now session.awaited) (r.Error rule) is)
first_rule now session left (CallStep m) refused rule is =
    let rules : List Check = after_session (is_some session.awaited) session.msize (call_rules session.fids m) in
    decides rules (first_failing rules) (wants_memory session.fids m refused) (call_question now session.msize session.fids m) rule refl
    (refused_by session left (call_decision now (is_some session.awaited) session.msize session.fids m refused) (r.Error rule) is)
first_rule now session left (CloseStep fid) refused rule is =
    let rules : List Check = (S5, is_some session.awaited) ∷ [] in
    decides rules (first_failing rules) false (close_question now session.fids fid) rule refl
    (refused_by session left (close_decision now (is_some session.awaited) session.fids fid) (r.Error rule) is)
first_rule now session left (Table change) refused rule is =
    let reply : (table_stepped session change).0 ≡ r.Error rule = cc in
    first_to_fail (change_rules session change) rule (table_first session change rule reply)
