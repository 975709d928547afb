-- How a call ends, by its rules and by what memory gives.
use Rattle.std.proofs.Common.{◌≡◌, ◌∙◌, ℕ, ◌+◌, ◌≤◌, Bool, true, false, not, ◌&&◌, List, [], ◌∷◌, length, Option, None, Some, refl, sym, ap}
use Rattle.std.proofs.Common.{subst, arith}
use Rattle.std.specs.Prelude.{is_some}
use Rattle.std.proofs.lemmas.Bool.Decides.{nat_tests}
use Rattle.cs_names.specs.declared.limits.TheConstants.{JOURNAL_ENTRIES}
use Rattle.cs_names.specs.declared.rule_id.RuleId.{RuleId}
use Rattle.cs_permit.specs.Calls.{failing_rule}
use Rattle.cs_permit.specs.declared.call.AttachCall.{AttachCall}
use Rattle.cs_permit.specs.declared.call.Call.{Call}
use Rattle.cs_permit.specs.declared.call.Call.TheVariants as calls
use Rattle.cs_permit.specs.declared.call.OpenFile.{OpenFile}
use Rattle.cs_run.specs.declared.answer.Answer.{Answer}
use Rattle.cs_run.specs.declared.answer.Answer.TheVariants as a
use Rattle.cs_run.specs.declared.answer.Outcome.{Outcome}
use Rattle.cs_run.specs.declared.answer.Outcome.TheVariants as o
use Rattle.cs_run.specs.Marks.{Ample, NoGrant, is_refused}
use Rattle.cs_run.specs.Outcomes.{outcome, outcome_by, takes_memory}
use Rattle.cs_journal.specs.Calls.{charge, open_that_ends, is_full}
use Rattle.cs_journal.specs.Journals.{EntryOf, HasRoom, IsLegal, IsOutcome, answer_to, apply, rules_view_of, turn_in}
use Rattle.cs_journal.specs.Marks.{StepMark, call_mark, refuses_entry}
use Rattle.cs_journal.specs.Runs.{RunOf, first_state, state_of}
use Rattle.cs_journal.specs.Steps.{run_with_entry, step}
use Rattle.cs_journal.proofs.Journals.{IsLegal-push, replay-push}
use Rattle.cs_journal.proofs.Moves.{call_moves}
use Rattle.cs_world.specs.Ends.{HasEntry, CallComesTo, entry_by, Full, ShortBefore, Denied, Short, Granted}
use Rattle.cs_world.specs.Consistent.{IsAttachedAs}
use Rattle.cs_world.specs.Runs.{run_step}
use Rattle.cs_wire.specs.declared.message.Qid.{Qid}
use Rattle.cs_world.proofs.Placing.{get_end, get_kept}

ends_none : (x : Option OpenFile) (b : Bool) → (b && not (is_some x)) ≡ true → x ≡ None
ends_none None b e = refl
ends_none (Some x) true e = absurd (cc)
ends_none (Some x) false e = absurd (cc)

takes : (a b : Bool) → (a && b) ≡ true → b ≡ true
takes true b e = e
takes false b e = absurd (cc)

module _ (run : RunOf) (now pass : ℕ) (call : Call) where
  made : (outcome : Outcome)
      → HasEntry run (entry_by now pass call outcome) (answer_to (state_of run) (entry_by now pass call outcome))
      (run_with_entry run (entry_by now pass call outcome))
  made outcome = record {
    answer_is = refl;
    run_is = refl;
    state = replay-push (first_state run) run.journal (entry_by now pass call outcome);
  }

  ends_by : (fails : Option RuleId) (short : Bool) (refused : Bool) → is_full (state_of run) pass call ≡ false
      → failing_rule (rules_view_of (state_of run)) call ≡ fails
      → (refused && takes_memory (rules_view_of (state_of run)) (turn_in (state_of run) pass now) call) ≡ short
      → CallComesTo run now pass call (answer_to (state_of run) (entry_by now pass call (outcome_by fails short)))
      (run_with_entry run (entry_by now pass call (outcome_by fails short)))
  ends_by (Some rule) short refused room fails takes_some = Denied rule room fails (made (o.Denied rule))
  ends_by None true refused room fails takes_some = Short room fails (takes refused _ takes_some) (made o.Short)
  ends_by None false refused room fails takes_some = Granted room fails (made o.Granted)

  module _ (mark : StepMark) where
    judged_by : (full short : Bool) → is_full (state_of run) pass call ≡ full
        → (refuses_entry mark && not (is_some (open_that_ends (state_of run).opens pass call))) ≡ short
        → CallComesTo run now pass call (run_step run now pass call mark).0 (run_step run now pass call mark).1
    unfolding step outcome
    judged_by true short f e = rw f (Full f refl refl)
    judged_by false true f e =
        rw (f, e) (ShortBefore f (ends_none (open_that_ends (state_of run).opens pass call) (refuses_entry mark) e) refl refl)
    judged_by false false f e = rw (f, e) (ends_by _ _ (is_refused (call_mark mark)) f refl refl)

    -- each call ends in one of these ways
    pub judged : CallComesTo run now pass call (run_step run now pass call mark).0 (run_step run now pass call mark).1
    judged = judged_by _ _ refl refl

-- ---- what stays of the run

-- there is room, and the journal is legal
abbrev pub IsSound : RunOf → Type 0
IsSound run = HasRoom (state_of run) × IsLegal (first_state run) run.journal

-- there is room still, and the journal is legal still
entered_sound : (run : RunOf) (e : EntryOf) (answer : Answer) (run' : RunOf) → is_full (state_of run) e.pass e.call ≡ false
    → IsOutcome (state_of run) e → HasEntry run e answer run' → IsSound run → IsSound run'
entered_sound run e answer run' room its m h =
    let more = call_moves (rules_view_of (state_of run)) (turn_in (state_of run) e.pass e.moment) e.call e.outcome in
    let limit : (state_of run).entries + length (state_of run).opens + charge (state_of run).opens e.pass e.call ≤ JOURNAL_ENTRIES =
    grind (arith, nat_tests) in
    let there : HasRoom (apply (state_of run) e) = omega (arith, limit, more.room) in
    subst IsSound (sym m.run_is) (
      subst HasRoom (sym (replay-push (first_state run) run.journal e)) there,
      IsLegal-push (first_state run) run.journal e h.1 its
          there,
    )

-- one entry more
entered_attached : (run : RunOf) (e : EntryOf) (number : ℕ) (user : List ℕ) → IsAttachedAs run number user
    → IsAttachedAs (run_with_entry run e) number user
entered_attached run e number user h = record {
  place = h.place;
  moment = h.moment;
  entry = get_kept run.journal (e ∷ []) h.place _ h.entry;
}

module _ (run : RunOf) (now pass : ℕ) (call : Call) (answer : Answer) (run' : RunOf) where
  pub keeps_sound : CallComesTo run now pass call answer run' → IsSound run → IsSound run'
  unfolding outcome
  keeps_sound (Full f is same) h = subst IsSound (sym same) h
  keeps_sound (ShortBefore f none is same) h = subst IsSound (sym same) h
  keeps_sound (Denied rule f fails m) h =
      entered_sound run (entry_by now pass call (o.Denied rule)) answer run' f (Ample, rw fails refl) m h
  keeps_sound (Short f fails takes_some m) h =
      entered_sound run (entry_by now pass call o.Short) answer run' f (NoGrant, rw (fails, takes_some) refl) m h
  keeps_sound (Granted f fails m) h = entered_sound run (entry_by now pass call o.Granted) answer run' f (Ample, rw fails refl) m h

  -- and what an entry leaves as it is stays
  keeps : {A : Type 0} (of : RunOf → A) → ((e : EntryOf) → of (run_with_entry run e) ≡ of run) → CallComesTo run now pass call answer run'
      → of run' ≡ of run
  keeps of same_with (Full f is same) = ap of same
  keeps of same_with (ShortBefore f none is same) = ap of same
  keeps of same_with (Denied rule f fails m) = ap of m.run_is ∙ same_with (entry_by now pass call (o.Denied rule))
  keeps of same_with (Short f fails takes m) = ap of m.run_is ∙ same_with (entry_by now pass call o.Short)
  keeps of same_with (Granted f fails m) = ap of m.run_is ∙ same_with (entry_by now pass call o.Granted)

  pub keeps_fresh : CallComesTo run now pass call answer run' → run'.fresh ≡ run.fresh
  keeps_fresh = keeps (λ (r : RunOf). r.fresh) (λ e. refl)

  pub keeps_users : CallComesTo run now pass call answer run' → run'.users ≡ run.users
  keeps_users = keeps (λ (r : RunOf). r.users) (λ e. refl)

  pub keeps_passes : CallComesTo run now pass call answer run' → run'.passes ≡ run.passes
  keeps_passes = keeps (λ (r : RunOf). r.passes) (λ e. refl)

  -- who was attached, was attached
  pub keeps_attached : (number : ℕ) (user : List ℕ) → CallComesTo run now pass call answer run' → IsAttachedAs run number user
      → IsAttachedAs run' number user
  keeps_attached number user (Full f is same) h = subst (λ r. IsAttachedAs r number user) (sym same) h
  keeps_attached number user (ShortBefore f none is same) h = subst (λ r. IsAttachedAs r number user) (sym same) h
  keeps_attached number user (Denied rule f fails m) h =
      subst (λ r. IsAttachedAs r number user) (sym m.run_is) (entered_attached run (entry_by now pass call (o.Denied rule)) number user h)
  keeps_attached number user (Short f fails takes m) h =
      subst (λ r. IsAttachedAs r number user) (sym m.run_is) (entered_attached run (entry_by now pass call o.Short) number user h)
  keeps_attached number user (Granted f fails m) h =
      subst (λ r. IsAttachedAs r number user) (sym m.run_is) (entered_attached run (entry_by now pass call o.Granted) number user h)

-- an attach that is answered so was granted
module _ (run : RunOf) (now pass : ℕ) (asked : AttachCall) (qid : Qid) (run' : RunOf) where
  pub now_attached : CallComesTo run now pass (calls.Attach asked) (a.Attached qid) run' → IsAttachedAs run' pass asked.user
  now_attached (Full f is same) = absurd (cc)
  now_attached (ShortBefore f none is same) = absurd (cc)
  now_attached (Denied rule f fails m) = absurd (let no = m.answer_is in cc)
  now_attached (Short f fails takes m) = absurd (let no = m.answer_is in cc)
  now_attached (Granted f fails m) = subst (λ r. IsAttachedAs r pass asked.user) (sym m.run_is) (record {
    place = length run.journal;
    moment = now;
    entry = get_end run.journal (entry_by now pass (calls.Attach asked) o.Granted);
  })
