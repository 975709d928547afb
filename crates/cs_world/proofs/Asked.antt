-- What a connection of a consistent world asks can be asked.
use Rattle.std.proofs.Common.{◌≡◌, ◌∙◌, ℕ, ◌+◌, ◌<◌, Bool, false, length, Option, None, Some, IsSome, refl, sym, ap, subst, arith}
use Rattle.std.specs.Prelude.{IsSomeAnd, nat_lt, slice_set}
use Rattle.std.proofs.lemmas.Bool.{eq-eqb}
use Rattle.std.proofs.lemmas.Bool.Decides.{nat_tests}
use Rattle.cs_fids.specs.declared.entry.FidEntry.TheVariants as entry
use Rattle.cs_fids.specs.declared.fid.Opened.{Opened}
use Rattle.cs_fids.specs.Entries.{pass_of, run_of, user_of}
use Rattle.cs_fids.specs.FidOf.{FidOf}
use Rattle.cs_journal.specs.Calls.{is_full}
use Rattle.cs_journal.specs.Journals.{HasRoom, RunState}
use Rattle.cs_journal.specs.Runs.{RunOf, state_of}
use Rattle.cs_names.specs.declared.limits.TheConstants.{CONNECTIONS, JOURNAL_ENTRIES, RUN_ATTACHES}
use Rattle.cs_permit.specs.declared.call.Call.{Call}
use Rattle.cs_permit.specs.TreeNames.{tree_name_in}
use Rattle.cs_registry.specs.Runs.{held_at}
use Rattle.cs_run.specs.Opens.{open_numbered}
use Rattle.cs_run.specs.Outcomes.{closed_open_number}
use Rattle.cs_session.specs.Questions.{Question}
use Rattle.cs_session.specs.Sessions.{Awaited, empty_session, entry_at}
use Rattle.cs_session.specs.Steps.{Asks, Step, FindStep, AttachStep, CallStep, CloseStep, Table, first_move_by}
use Rattle.cs_world.specs.Consistent.{CanBeAsked, HasOpen, IsConsistent, awaits, count_awaiting}
use Rattle.cs_world.specs.Worlds.{World, session_at}
use Rattle.cs_world.proofs.Invariant.{attach_asks, find_by}
use Rattle.cs_world.proofs.Standing.{counted, given, held_there, one_if, stands}
use Rattle.cs_world.proofs.Tables.{IsAsked, call_asks, close_asks, fid_in, freed_by, judged_asks}

-- a call that ends an open that is there has room
free_by : (s : RunState) (pass : ℕ) (asked : Call) (number : ℕ) → closed_open_number asked ≡ Some number
    → IsSome (open_numbered number pass s.opens) → HasRoom s → is_full s pass asked ≡ false
free_by s pass asked number is stands room =
    let low : nat_lt JOURNAL_ENTRIES (s.entries + length s.opens + 0) ≡ false = grind (arith, nat_tests) in
    rw (is, stands) low

-- ---- what is asked can be asked

module _ (w : World) (ok : IsConsistent w) (conn : ℕ) (inside : conn < CONNECTIONS) where
  attach_can : (p : Awaited) → (session_at w conn).awaited ≡ Some p
      → IsSomeAnd (held_at w.registry.runs p.run) (λ run. run.passes < RUN_ATTACHES)
  attach_can p waits =
      let its = stands w.registry p.run (ok.there.awaited conn p waits) in
      let run = ok.there.runs p.run its.key its.run its.there in
      let one : one_if (awaits p.run (session_at w conn)) ≡ 1 = rw waits (ap one_if (eq-eqb p.run p.run refl)) in
      let count : count_awaiting p.run (slice_set w.connections conn (empty_session None)) + one_if (awaits p.run (session_at w conn))
      ≡ count_awaiting p.run w.connections + 0 =
      counted (awaits p.run) w.connections conn (empty_session None) (empty_session None) (omega (arith, ok.there.all)) in
      let low : its.run.held.passes < RUN_ATTACHES = omega (arith, one, count, run.attaches, run.few) in
      rw (held_there w.registry p.run its.key its.run its.there) low

  -- the run of an entry gave its pass, and a call that ends the entry's open has room
  asks_can : (fid : ℕ) (freed : Option ℕ) (q : Question) (now : ℕ) → IsAsked (session_at w conn).fids now fid freed q
      → CanBeAsked w.registry q
  asks_can fid freed q now its =
      let g = given w.registry (run_of its.held) (pass_of its.held) (user_of its.held) (ok.there.fids conn fid its.held its.there) in
      let held : held_at w.registry.runs (run_of its.held) ≡ Some g.run.held =
      held_there w.registry (run_of its.held) g.key g.run g.there in
      let room : HasRoom (state_of g.run.held) = (ok.there.runs (run_of its.held) g.key g.run g.there).room in
      let ends : (o : Option ℕ) → closed_open_number its.call ≡ o → IsSome o
      → is_full (state_of g.run.held) (pass_of its.held) its.call ≡ false = ends_by fid freed q now its g.run.held held room in
      subst (CanBeAsked w.registry) (sym its.is) (rw held (g.gave, λ some. ends (closed_open_number its.call) refl some))
    where
      ends_by : (fid : ℕ) (freed : Option ℕ) (q : Question) (now : ℕ) (its : IsAsked (session_at w conn).fids now fid freed q) (run : RunOf)
          → held_at w.registry.runs (run_of its.held) ≡ Some run → HasRoom (state_of run)
          → (o : Option ℕ) → closed_open_number its.call ≡ o → IsSome o → is_full (state_of run) (pass_of its.held) its.call ≡ false
      ends_by fid freed q now its run held room None is some = absurd (cc)
      ends_by fid freed q now its run held room (Some number) is some =
          let e = its.ends number is in
          let f : FidOf Opened = e.0 in
          let there : entry_at (session_at w conn) fid ≡ Some (entry.Opened f) = its.there ∙ ap Some e.1 in
          let run_is : f.run ≡ run_of its.held = ap run_of (sym e.1) in
          let pass_is : f.pass ≡ pass_of its.held = ap pass_of (sym e.1) in
          let stood : HasOpen w.registry (run_of its.held) (pass_of its.held) number =
          subst (λ n. HasOpen w.registry (run_of its.held) (pass_of its.held) n) e.2
          (subst (λ p. HasOpen w.registry (run_of its.held) p f.state.open_number) pass_is
          (subst (λ r. HasOpen w.registry r f.pass f.state.open_number) run_is (ok.opens.stand conn fid f there))) in
          let stands_there : IsSome (open_numbered number (pass_of its.held) (state_of run).opens) = rw held at stood in
          free_by (state_of run) (pass_of its.held) its.call number is stands_there room

  -- what a connection asks can be asked
  pub can_be_asked : (now : ℕ) (x : Step) (refused : Bool) (q : Question) → first_move_by now (session_at w conn) x refused ≡ Asks q
      → CanBeAsked w.registry q
  can_be_asked now (FindStep m) refused q e =
      let its = find_by (tree_name_in m.aname) q (judged_asks (session_at w conn) _ refused _ q e) in
      subst (CanBeAsked w.registry) (sym its.is) tt
  can_be_asked now AttachStep refused q e =
      let its = attach_asks now (session_at w conn) (session_at w conn).awaited refl q e in
      subst (CanBeAsked w.registry) (sym its.is) (attach_can its.awaited its.waits)
  can_be_asked now (CallStep m) refused q e = asks_can (fid_in m) (freed_by m) q now (call_asks now (session_at w conn) q m refused e)
  can_be_asked now (CloseStep fid) refused q e = asks_can fid (Some fid) q now (close_asks now (session_at w conn) q fid refused e)
  can_be_asked now (Table change) refused q e = absurd (cc)
