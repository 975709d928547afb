-- What a step of a connection results in, in a consistent world.
use Rattle.std.proofs.Common.{◌≡◌, ℕ, ◌<◌, Bool, true, false, Option, None, Some, refl, sym, subst, arith}
use Rattle.std.specs.Prelude.{IsSome, IsSomeAnd, nat_le, nat_lt}
use Rattle.std.proofs.lemmas.Bool.Decides.{nat_tests}
use Rattle.cs_fids.specs.Entries.{pass_of, run_of}
use Rattle.cs_journal.specs.Calls.{is_full}
use Rattle.cs_journal.specs.Runs.{RunOf, state_of, with_pass}
use Rattle.cs_run.specs.Outcomes.{closed_open_number}
use Rattle.cs_names.specs.declared.limits.TheConstants.{CONNECTIONS, RUN_ATTACHES}
use Rattle.cs_permit.specs.declared.call.Call.{Call}
use Rattle.cs_permit.specs.declared.call.Call.TheVariants as call
use Rattle.cs_permit.specs.TreeNames.{tree_name_in}
use Rattle.cs_registry.specs.Runs.{held_at}
use Rattle.cs_session.specs.Questions.{Question, AttachTo, CallOn}
use Rattle.cs_session.specs.Sessions.{Awaited}
use Rattle.cs_session.specs.Steps.{FirstMove, Done, Asks, Step, FindStep, AttachStep, CallStep, CloseStep, Table, first_move_by}
use Rattle.cs_world.specs.Asking.{answer_of_runs}
use Rattle.cs_world.specs.Comes.{ConnectionStepComesTo, NoConnection, OwnReply, AsksRegistry, AttachShort, AttachOnRun, CallOnRun}
use Rattle.cs_world.specs.Marks.{WorldMark, RunMark, run_mark_of, step_mark_of, refuses_pass, refuses_own}
use Rattle.cs_world.specs.Consistent.{IsConsistent}
use Rattle.cs_world.specs.Steps.{from_front, on_connection, continued_from}
use Rattle.cs_world.specs.Worlds.{World, session_at}
use Rattle.cs_world.proofs.Ending.{on_ends}
use Rattle.cs_world.proofs.Asked.{can_be_asked}
use Rattle.cs_world.proofs.Invariant.{attach_asks, find_by}
use Rattle.cs_world.proofs.Judging.{judged}
use Rattle.cs_world.proofs.Tables.{call_asks, close_asks, judged_asks}

module _ (w : World) (ok : IsConsistent w) (conn : ℕ) (inside : conn < CONNECTIONS) (now : ℕ) (x : Step) (refused : Bool) where
  -- by the question and its answer
  abbrev Its : Question → RunMark → Type 0
  Its q mark =
      ConnectionStepComesTo w conn now x refused (continued_from w conn x (answer_of_runs w.registry q mark)).0
      (continued_from w conn x (answer_of_runs w.registry q mark)).1

  -- at a run that is there
  run_there : (place : ℕ) (P : RunOf → Type 0) → IsSomeAnd (held_at w.registry.runs place) P → (run : RunOf)
      × (held_at w.registry.runs place ≡ Some run) × P run
  run_there place P h = by (held_at w.registry.runs place) refl h
    where
      by : (o : Option RunOf) → held_at w.registry.runs place ≡ o → IsSomeAnd o P → (run : RunOf)
          × (held_at w.registry.runs place ≡ Some run) × P run
      by None is none = absurd none
      by (Some run) is some = (run, is, some)

  attach_comes_by : (p : Awaited) (mark : RunMark) → first_move_by now (session_at w conn) x refused ≡ Asks (AttachTo now p.run p.call)
      → (run : RunOf) → held_at w.registry.runs p.run ≡ Some run → run.passes < RUN_ATTACHES → (short : Bool) → refuses_pass mark ≡ short
      → Its (AttachTo now p.run p.call) mark
  attach_comes_by p mark e run there low true short =
      let room : nat_le RUN_ATTACHES run.passes ≡ false = grind (arith, nat_tests) in
      rw (there, room, short) (AttachShort p.run p.call run e there refl)
  attach_comes_by p mark e run there low false short =
      let room : nat_le RUN_ATTACHES run.passes ≡ false = grind (arith, nat_tests) in
      rw (there, room, short)
      (AttachOnRun p.run p.call run _ _ e there low (judged (with_pass run) now run.passes (call.Attach p.call) (step_mark_of mark))
      refl)

  attach_comes : (p : Awaited) (mark : RunMark) → first_move_by now (session_at w conn) x refused ≡ Asks (AttachTo now p.run p.call)
      → Its (AttachTo now p.run p.call) mark
  attach_comes p mark e =
      let can = can_be_asked w ok conn inside now x refused (AttachTo now p.run p.call) e in
      let its = run_there p.run (λ run. run.passes < RUN_ATTACHES) can in
      attach_comes_by p mark e its.0 its.1 its.2 (refuses_pass mark) refl

  calls : (place pass : ℕ) (asked : Call) (mark : RunMark)
      → first_move_by now (session_at w conn) x refused ≡ Asks (CallOn now place pass asked) → Its (CallOn now place pass asked) mark
  calls place pass asked mark e =
      let can = can_be_asked w ok conn inside now x refused (CallOn now place pass asked) e in
      let its =
      run_there place (λ run. (pass < run.passes) × (IsSome (closed_open_number asked) → is_full (state_of run) pass asked ≡ false)) can
      in
      let run : RunOf = its.0 in
      let there : held_at w.registry.runs place ≡ Some run = its.1 in
      let low : pass < run.passes = its.2.0 in
      let known : nat_lt pass run.passes ≡ true = grind (arith, nat_tests) in
      rw (there, known) (CallOnRun place pass asked run _ _ e there low (judged run now pass asked (step_mark_of mark)) refl)

module _ (w : World) (ok : IsConsistent w) (conn : ℕ) (inside : conn < CONNECTIONS) (now : ℕ) where
  by_question : (x : Step) (refused : Bool) (q : Question) (mark : RunMark) → first_move_by now (session_at w conn) x refused ≡ Asks q
      → Its w ok conn inside now x refused q mark
  by_question (FindStep m) refused q mark e =
      let its = find_by (tree_name_in m.aname) q (judged_asks (session_at w conn) _ refused _ q e) in
      AsksRegistry its.state_name its.run_name mark
      (subst (λ q. first_move_by now (session_at w conn) (FindStep m) refused ≡ Asks q) its.is e)
      (subst (λ p. continued_from w conn (FindStep m) (answer_of_runs w.registry q mark)
      ≡ continued_from w conn (FindStep m) (answer_of_runs w.registry p mark)) its.is refl)
  by_question AttachStep refused q mark e =
      let its = attach_asks now (session_at w conn) (session_at w conn).awaited refl q e in
      subst (λ q. Its w ok conn inside now AttachStep refused q mark) (sym its.is)
      (attach_comes w ok conn inside now AttachStep refused its.awaited mark
      (subst (λ q. first_move_by now (session_at w conn) AttachStep refused ≡ Asks q) its.is e))
  by_question (CallStep m) refused q mark e =
      let its = call_asks now (session_at w conn) q m refused e in
      subst (λ q. Its w ok conn inside now (CallStep m) refused q mark) (sym its.is)
      (calls w ok conn inside now (CallStep m) refused (run_of its.held) (pass_of its.held) its.call mark
      (subst (λ q. first_move_by now (session_at w conn) (CallStep m) refused ≡ Asks q) its.is e))
  by_question (CloseStep fid) refused q mark e =
      let its = close_asks now (session_at w conn) q fid refused e in
      subst (λ q. Its w ok conn inside now (CloseStep fid) refused q mark) (sym its.is)
      (calls w ok conn inside now (CloseStep fid) refused (run_of its.held) (pass_of its.held) its.call mark
      (subst (λ q. first_move_by now (session_at w conn) (CloseStep fid) refused ≡ Asks q) its.is e))
  by_question (Table change) refused q mark e = absurd (cc)

  by_front : (x : Step) (refused : Bool) (mark : RunMark) (f : FirstMove) → first_move_by now (session_at w conn) x refused ≡ f
      → ConnectionStepComesTo w conn now x refused (from_front w conn x mark f).0 (from_front w conn x mark f).1
  by_front x refused mark (Done reply s) e = OwnReply reply s e refl refl
  by_front x refused mark (Asks q) e = by_question x refused q mark e

module _ (w : World) (ok : IsConsistent w) (conn now : ℕ) (x : Step) (mark : WorldMark) where
  -- each step of a connection results in one of these
  pub comes : ConnectionStepComesTo w conn now x (refuses_own mark) (on_connection w conn now x mark).0 (on_connection w conn now x mark).1
  comes = on_ends w conn now x mark (λ q y. ConnectionStepComesTo w conn now x (refuses_own mark) y.0 y.1)
      (λ low. by_front w ok conn low now x (refuses_own mark) (run_mark_of mark)
      (first_move_by now (session_at w conn) x (refuses_own mark)) refl) (λ high. NoConnection high refl refl)
