-- The three ends of a step: an entry more, no room for it, or no memory for it.
use Rattle.std.proofs.Common.{◌≡◌, ◌≢◌, ◌∙◌, ℕ, ◌&&◌, Bool, true, false, not, List, None, refl, sym, subst}
use Rattle.std.specs.Prelude.{is_some}
use Rattle.cs_names.specs.declared.rule_id.RuleId.TheVariants.{L1}
use Rattle.cs_permit.specs.Calls.{failing_rule}
use Rattle.cs_permit.specs.declared.call.Call.{Call}
use Rattle.cs_permit.specs.declared.call.Call.TheVariants as k
use Rattle.cs_permit.specs.declared.call.CloseCall.{CloseCall}
use Rattle.cs_permit.specs.declared.call.OpenFile.{OpenFile}
use Rattle.cs_run.proofs.Fitting.{fits}
use Rattle.cs_run.specs.Effects.{close_effect}
use Rattle.cs_run.specs.Marks.{CallMark, Ample as ample, NoGrant as no_grant, is_refused}
use Rattle.cs_run.specs.Opens.{open_numbered}
use Rattle.cs_run.specs.Outcomes.{outcome, outcome_by, result_by_mark}
use Rattle.cs_run.specs.declared.answer.Answer.TheVariants.{Closed, Denied, Short}
use Rattle.cs_run.specs.declared.answer.Outcome.TheVariants as out
use Rattle.cs_journal.specs.Calls.{charge, closes_plainly, open_that_ends, is_close, is_full}
use Rattle.cs_journal.specs.Journals.{EntryOf, IsLegal, RunState, rules_view_of, turn_in}
use Rattle.cs_journal.specs.Marks.{StepMark, Ample, NoEntry, NoGrant}
use Rattle.cs_journal.specs.Runs.{Fits, PassOf, RunOf, first_state, state_of}
use Rattle.cs_journal.specs.Small.{is_small}
use Rattle.cs_journal.specs.Steps.{IsStep, after_entry, step}

-- what holds of a run and a pass holds of them by other names
pub along : (P : RunOf → PassOf → Type 0) (r r' : RunOf) (p p' : PassOf) → r ≡ r' → p ≡ p' → P r' p' → P r p
along P r r' p p' run_is pass_is there =
    let Q : PassOf → Type 0 = λ x. P r x in
    let R : RunOf → Type 0 = λ x. P x p' in
    subst Q (sym pass_is) (subst R (sym run_is) there)

-- ---- a close whose open is there and that removes nothing

granted_if : (mark : CallMark) → outcome_by None (is_refused mark && false) ≡ out.Granted
granted_if ample = refl
granted_if no_grant = refl

both : (a b c : Bool) → (a && (b && not c)) ≡ true → (b ≡ true) × (c ≡ false)
both true true false is = (refl, refl)
both true true true is = absurd cc
both true false c is = absurd cc
both false b c is = absurd cc

plain_close : (s : RunState) (pass now : ℕ) (c : CloseCall) (mark : CallMark) → closes_plainly s pass (k.Close c) ≡ true
    → (result_by_mark (rules_view_of s) (turn_in s pass now) (k.Close c) mark).answer ≡ Closed
unfolding outcome failing_rule close_effect
plain_close s pass now c mark plain =
    let kept = both true (is_some (open_numbered c.open_number pass s.opens)) _ plain in
    rw (kept.1, granted_if mark) refl

-- such a close is answered even if memory runs out
pub plainly : (s : RunState) (pass now : ℕ) (call : Call) (mark : CallMark) → closes_plainly s pass call ≡ true
    → (result_by_mark (rules_view_of s) (turn_in s pass now) call mark).answer ≡ Closed
plainly s pass now (k.Close c) mark plain = plain_close s pass now c mark plain
plainly s pass now (k.Attach c) mark plain = absurd cc
plainly s pass now (k.Walk c) mark plain = absurd cc
plainly s pass now (k.Open c) mark plain = absurd cc
plainly s pass now (k.Create c) mark plain = absurd cc
plainly s pass now (k.Read c) mark plain = absurd cc
plainly s pass now (k.Write c) mark plain = absurd cc
plainly s pass now (k.Remove c) mark plain = absurd cc
plainly s pass now (k.Stat c) mark plain = absurd cc
plainly s pass now (k.Wstat c) mark plain = absurd cc

-- it ends an open that is there
pub plain_ends : (s : RunState) (pass : ℕ) (call : Call) → closes_plainly s pass call ≡ true
    → is_some (open_that_ends s.opens pass call) ≡ true
plain_ends s pass call plain = (both (is_close call) (is_some (open_that_ends s.opens pass call)) _ plain).0

-- a call that an entry doesn't keep whole ends no open
pub ends_small : (opens : List OpenFile) (pass : ℕ) (call : Call) → is_small call ≡ false → is_some (open_that_ends opens pass call) ≡ false
ends_small opens pass (k.Attach c) is = refl
ends_small opens pass (k.Walk c) is = refl
ends_small opens pass (k.Open c) is = refl
ends_small opens pass (k.Create c) is = refl
ends_small opens pass (k.Read c) is = refl
ends_small opens pass (k.Write c) is = refl
ends_small opens pass (k.Close c) is = absurd cc
ends_small opens pass (k.Remove c) is = absurd cc
ends_small opens pass (k.Stat c) is = refl
ends_small opens pass (k.Wstat c) is = refl

-- a call that ends an open that is there is charged nothing
pub free : (opens : List OpenFile) (pass : ℕ) (call : Call) → is_some (open_that_ends opens pass call) ≡ true → charge opens pass call ≡ 0
free opens pass call is = rw is refl

pub ends_none_if : (opens : List OpenFile) (pass : ℕ) (call : Call) → (charge opens pass call ≡ 0 → ⊥)
    → is_some (open_that_ends opens pass call) ≡ false
ends_none_if opens pass call charged = by (is_some (open_that_ends opens pass call)) refl
  where
    by : (b : Bool) → is_some (open_that_ends opens pass call) ≡ b → is_some (open_that_ends opens pass call) ≡ false
    by true is = absurd (charged (free opens pass call is))
    by false is = is

-- ---- the three ends of a step

module _ (r : RunOf) (p : PassOf) (now : ℕ) (call : Call) where
  -- an entry more, with the outcome that a mark gives
  pub entered_step : (mark : CallMark) (e : EntryOf) → is_full (state_of r) p.number call ≡ false → e ≡ record {
    pass = p.number;
    moment = now;
    call = call;
    outcome = outcome (rules_view_of (state_of r)) (turn_in (state_of r) p.number now) call mark;
  } → (m : StepMark) × (after_entry r p e ≡ step r p now call m)
  unfolding step
  entered_step ample e room is = (Ample, rw (is, room) refl)
  entered_step no_grant e room is = (NoGrant, rw (is, room) refl)

  -- nothing changes
  module _ (legal : IsLegal (first_state r) r.journal) (own : Fits r p) where
    pub full_step : is_full (state_of r) p.number call ≡ true → closes_plainly (state_of r) p.number call ≢ true
        → IsStep r p now call (Denied L1) r p
    unfolding step
    full_step full other = record {
      stepped = (Ample, rw full refl);
      legal = legal;
      fits = own;
      others = λ q differs f. f;
      plain = λ plain. absurd (other plain);
      answers = fits (rules_view_of (state_of r)) (turn_in (state_of r) p.number now) call (out.Denied L1);
    }

    pub short_step : is_full (state_of r) p.number call ≡ false → is_some (open_that_ends (state_of r).opens p.number call) ≡ false
        → IsStep r p now call Short r p
    unfolding step
    short_step room none = record {
      stepped = (NoEntry, rw (room, none) refl);
      legal = legal;
      fits = own;
      others = λ q differs f. f;
      plain = λ plain. let bad : false ≡ true = sym none ∙ plain_ends (state_of r) p.number call plain in absurd cc;
      answers = fits (rules_view_of (state_of r)) (turn_in (state_of r) p.number now) call out.Short;
    }
