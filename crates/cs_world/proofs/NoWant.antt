-- In a consistent world a step in which memory refuses nothing doesn't say out of memory: each question is answered in its kind.
use Rattle.std.proofs.Common.{◌≡◌, ℕ, zero, suc, ◌<◌, Bool, true, false, not, cond, List, [], ◌∷◌, length, Option, None, Some, Result, Ok}
use Rattle.std.proofs.Common.{Err, refl, subst, arith}
use Rattle.std.specs.Prelude.{is_none, is_some, nat_le, nat_lt, option_and_then, option_map, slice_get, slice_index_or}
use Rattle.std.specs.FinMap.{get}
use Rattle.std.specs.Option.{option_map_or}
use Rattle.cs_fids.specs.declared.entry.FidEntry.{FidEntry}
use Rattle.cs_fids.specs.declared.entry.FidEntry.TheVariants as entry
use Rattle.cs_fids.specs.Entries.{pass_of, run_of}
use Rattle.cs_fids.specs.Tables.{least_open}
use Rattle.cs_journal.specs.Calls.{is_full}
use Rattle.cs_journal.specs.Journals.{rules_view_of}
use Rattle.cs_journal.specs.Marks.{Ample}
use Rattle.cs_journal.specs.Runs.{RunOf, state_of, with_pass}
use Rattle.cs_journal.specs.Steps.{step}
use Rattle.cs_names.specs.declared.limits.TheConstants.{CONNECTIONS, RUN_ATTACHES}
use Rattle.cs_names.specs.declared.rule_id.RuleId.{RuleId}
use Rattle.cs_names.specs.declared.rule_id.RuleId.TheVariants.{H2, S4, S5}
use Rattle.cs_permit.specs.Calls.{RulesView, failing_rule}
use Rattle.cs_permit.specs.declared.call.Call.{Call}
use Rattle.cs_permit.specs.declared.call.Call.TheVariants as c
use Rattle.cs_permit.specs.TreeNames.{tree_name_in}
use Rattle.cs_plan.specs.declared.recipe.Recipe.{Recipe}
use Rattle.cs_plan.specs.Scenes.{state_at}
use Rattle.cs_permit.specs.declared.fault.FindFault.{FindFault}
use Rattle.cs_permit.specs.declared.fault.FindFault.TheVariants.{Unpublished, Full}
use Rattle.cs_registry.specs.Finds.{found_again, made}
use Rattle.cs_registry.specs.Keys.{Key}
use Rattle.cs_registry.specs.Naming.{key_in}
use Rattle.cs_registry.specs.Publishing.{with_published}
use Rattle.cs_registry.specs.Registries.{Registry, is_published}
use Rattle.cs_registry.specs.Runs.{has_no_room, held_at, place_of}
use Rattle.cs_run.specs.declared.answer.Answer.{Answer}
use Rattle.cs_run.specs.declared.answer.Answer.TheVariants as a
use Rattle.cs_run.specs.declared.turn.Turn.{Turn}
use Rattle.cs_run.specs.Effects.{effect_of, close_effect, create_effect, open_effect, remove_effect, write_effect, wstat_effect}
use Rattle.cs_run.specs.Outcomes.{outcome}
use Rattle.cs_permit.specs.Refusals.{first_failing}
use Rattle.cs_session.specs.declared.message.AttachMessage.{AttachMessage}
use Rattle.cs_session.specs.declared.message.CallMessage.{CallMessage}
use Rattle.cs_session.specs.declared.message.CallMessage.TheVariants as m
use Rattle.cs_session.specs.declared.message.CreateMessage.{CreateMessage}
use Rattle.cs_session.specs.declared.message.TableStep.{TableStep}
use Rattle.cs_session.specs.declared.message.TableStep.TheVariants as t
use Rattle.cs_permit.specs.declared.fault.PassFault.{PassFault}
use Rattle.cs_permit.specs.declared.fault.PassFault.TheVariants as pass
use Rattle.cs_session.specs.declared.reply.Reply.{Reply as Said}
use Rattle.cs_session.specs.declared.reply.Reply.TheVariants as r
use Rattle.cs_session.specs.Attaches.{attach_after, attach_decision, attach_settled, find_question}
use Rattle.cs_session.specs.Removes.{close_question, remove_question}
use Rattle.cs_session.specs.Stats.{stat_question, wstat_question}
use Rattle.cs_session.specs.Reads.{read_question, write_question}
use Rattle.cs_session.specs.Decisions.{decide, opened_at, walked_at}
use Rattle.cs_session.specs.Names.{file_in, user_in}
use Rattle.cs_session.specs.Opens.{create_named, create_question, open_question}
use Rattle.cs_session.specs.Questions.{Question, AttachTo, CallOn, PortAnswer, AttachAnswer, CallAnswer}
use Rattle.cs_session.specs.Sessions.{Awaited, SessionState, entry_at}
use Rattle.cs_session.specs.Steps.{Step as Taken, FindStep, AttachStep, CallStep, CloseStep, Table, reply_and_session, first_move_by}
use Rattle.cs_session.specs.Steps.{first_move_of}
use Rattle.cs_session.specs.TableSteps.{clunk_reply, clunk_rules, table_stepped, after_change}
use Rattle.cs_session.specs.Walks.{walk_question}
use Rattle.cs_world.specs.declared.reply.Reply.{Reply}
use Rattle.cs_world.specs.declared.reply.Reply.TheVariants.{Connection, Published, NotPublished as Refused}
use Rattle.cs_world.specs.declared.reply.StateFault.TheVariants as state
use Rattle.cs_world.specs.declared.step.Step.{Step}
use Rattle.cs_world.specs.declared.step.Step.TheVariants as s
use Rattle.cs_world.specs.Ample.{nothing_refused, says_out_of_memory, session_says_out_of_memory}
use Rattle.cs_world.specs.Asking.{answer_of_runs, call_answer, attach_answer, find_answer, found_by, given_run}
use Rattle.cs_world.specs.ConnectionSteps.{session_step}
use Rattle.cs_world.specs.Marks.{InRun}
use Rattle.cs_world.specs.Consistent.{IsConsistent}
use Rattle.cs_world.specs.Runs.{attach_on, call_on, run_step}
use Rattle.cs_world.specs.Steps.{from_front, step_of}
use Rattle.cs_world.specs.Worlds.{World, session_at}

-- ---- a call on a run

-- it is denied, or granted: what is so of both is so of its answer
module _ (run : RunOf) (now number : ℕ) (call : Call) (P : Answer → Type 0) (denied : (rule : RuleId) → P (a.Denied rule))
    (granted : (st : RulesView) (w : Turn) → P (effect_of st w call).answer) where
  run_by : (full : Bool) (fails : Option RuleId) → is_full (state_of run) number call ≡ full
      → failing_rule (rules_view_of (state_of run)) call ≡ fails → P (run_step run now number call Ample).0
  unfolding step outcome
  run_by true fails f e = rw f (denied _)
  run_by false (Some rule) f e = rw (f, e) (denied rule)
  run_by false None f e = rw (f, e) (granted _ _)

  pub run_answers : P (run_step run now number call Ample).0
  run_answers = run_by (is_full (state_of run) number call) (failing_rule (rules_view_of (state_of run)) call) refl refl

  called_by : (known : Bool) → nat_lt number run.passes ≡ known → P (call_on run now number call Ample).0
  called_by false e = rw e (denied S5)
  called_by true e = rw e run_answers

  pub call_answers : P (call_on run now number call Ample).0
  call_answers = called_by (nat_lt number run.passes) refl

-- ---- a question

mapped : {A B : Type 0} (f : A → B) (o : Option A) → is_some o ≡ true → is_some (option_map f o) ≡ true
mapped f None is = is
mapped f (Some x) is = refl

module _ (w : World) (conn : ℕ) where
  abbrev here : SessionState
  here = session_at w conn

  -- what comes of the answer doesn't say out of memory
  abbrev Suffices : Taken → PortAnswer → Type 0
  Suffices x told = session_says_out_of_memory (reply_and_session here x told).0 ≡ false

  abbrev Asked : Taken → Question → Type 0
  Asked x q = Suffices x (answer_of_runs w.registry q (InRun Ample)).0

  -- a call
  module _ (x : Taken) (now place number : ℕ) (call : Call) (denied : (rule : RuleId) → Suffices x (CallAnswer (a.Denied rule)))
      (granted : (st : RulesView) (turn : Turn) → Suffices x (CallAnswer (effect_of st turn call).answer)) where
    asks_by : (o : Option RunOf)
        → Suffices x
        (option_map_or {T = RunOf} {U = PortAnswer × Registry RunOf}
        (λ run. call_answer w.registry place (call_on run now number call Ample)) o (CallAnswer (a.Denied S5), w.registry)).0
    asks_by None = denied S5
    asks_by (Some run) = call_answers run now number call (λ (answer : Answer). Suffices x (CallAnswer answer)) denied granted

    asks : Asked x (CallOn now place number call)
    asks = asks_by (held_at w.registry.runs place)

  -- a question made of what an option holds
  made_of : {A : Type 0} (x : Taken) (ask : A → Question) (o : Option A) (q : Question) → option_map ask o ≡ Some q
      → ((v : A) → Asked x (ask v)) → Asked x q
  made_of x ask None q e each = absurd (cc)
  made_of x ask (Some v) q e each =
      let is : ask v ≡ q = cc in
      subst (Asked x) is (each v)

  -- a step that is judged
  abbrev Goes : Taken → Result Question Said → Type 0
  Goes x judged = says_out_of_memory (from_front w conn x (InRun Ample) (first_move_of here judged)).0 ≡ false

  goes : (x : Taken) (o : Option RuleId) (q : Option Question) → ((p : Question) → q ≡ Some p → Asked x p) → Goes x (decide o false q)
  goes x (Some rule) q ok = refl
  goes x None None ok = refl
  goes x None (Some p) ok = ok p refl

  -- ---- a find

  abbrev AllGiven : Type 0
  AllGiven = (number : ℕ) → is_published w.registry number ≡ true → is_some (state_at w.registry.scene number) ≡ true

  find_by : (x : AttachMessage) (key : Key) (published full : Bool) (o : Option ℕ) (g : Option RunOf)
      → (published ≡ true → is_some g ≡ true)
      → Suffices (FindStep x)
      (find_answer
      (cond {A = Result ℕ FindFault × Registry RunOf} (not published) (Err Unpublished, w.registry)
      (cond full (Err Full, w.registry) (option_map_or (found_again w.registry) o (made w.registry key g))))).0
  find_by x key false full o g ok = refl
  find_by x key true true o g ok = refl
  find_by x key true false (Some n) g ok = refl
  find_by x key true false None None ok = absurd (let none = ok refl in cc)
  find_by x key true false None (Some run) ok = refl

  find_asked : AllGiven → (x : AttachMessage) (o : Option Key) → Suffices (FindStep x) (found_by w.registry (InRun Ample) o).0
  find_asked given x None = refl
  find_asked given x (Some key) =
      find_by x key (is_published w.registry key.number) (has_no_room w.registry.runs key) (place_of key w.registry.runs)
      (given_run w.registry key.number (InRun Ample))
      (λ published. mapped _ (state_at w.registry.scene key.number) (given key.number published))

  -- ---- an attach

  module _ (p : Awaited) (now : ℕ) where
    abbrev IsAttachAnswer : Result (ℕ × Answer) PassFault → Type 0
    IsAttachAnswer told = session_says_out_of_memory (attach_after here (Some p) (AttachAnswer told)).0 ≡ false

    rooted_by : (user : Option (List ℕ)) (number : ℕ) (qid : _)
        → session_says_out_of_memory (attach_settled here.fids p.fid p.run user number (a.Attached qid)).0 ≡ false
    rooted_by None number qid = refl
    rooted_by (Some user) number qid = refl

    attached_by : (run : RunOf) (full : Bool) → nat_le RUN_ATTACHES run.passes ≡ full
        → IsAttachAnswer (attach_on run now p.call (InRun Ample)).0
    attached_by run true e = rw e refl
    attached_by run false e =
        rw e (run_answers (with_pass run) now run.passes (c.Attach p.call) (λ (answer : Answer). IsAttachAnswer (Ok (run.passes, answer)))
        (λ rule. refl) (λ st turn. rooted_by (user_in p.call.user) run.passes _))

    attach_answer_by : (o : Option RunOf)
        → session_says_out_of_memory
        (attach_after here (Some p)
        (option_map_or {T = RunOf} {U = PortAnswer × Registry RunOf}
        (λ run. attach_answer w.registry p.run (attach_on run now p.call (InRun Ample))) o
        (AttachAnswer (Err pass.Foreign), w.registry)).0).0 ≡ false
    attach_answer_by None = refl
    attach_answer_by (Some run) = attached_by run (nat_le RUN_ATTACHES run.passes) refl

  attach_goes : (now : ℕ) (o : Option Awaited) → here.awaited ≡ o → Goes AttachStep (attach_decision now here.awaited)
  attach_goes now None is = rw is refl
  attach_goes now (Some p) is =
      let its : session_says_out_of_memory
      (attach_after here here.awaited (answer_of_runs w.registry (AttachTo now p.run p.call) (InRun Ample)).0).0 ≡ false =
      rw is (attach_answer_by p now (held_at w.registry.runs p.run)) in
      rw is its

  -- ---- a call's step

  create_asked : (now : ℕ) (x : CreateMessage) (o : Option (List ℕ)) (q : Question)
      → option_and_then (create_named now here.fids x) o ≡ Some q → Asked (CallStep (m.Create x)) q
  unfolding create_effect
  create_asked now x None q e = absurd (cc)
  create_asked now x (Some name) q e =
      made_of (CallStep (m.Create x)) _ (walked_at here.fids x.fid) q e
      (λ f. asks (CallStep (m.Create x)) now f.run f.pass _ (λ rule. refl) (λ st turn. refl))

  stat_tells : (fid : ℕ) (o : Option _) → Suffices (CallStep (m.Stat fid)) (CallAnswer (option_map_or a.Stat o (a.Denied H2)))
  stat_tells fid None = refl
  stat_tells fid (Some stat) = refl

  call_goes : (now : ℕ) (x : CallMessage)
      → says_out_of_memory (from_front w conn (CallStep x) (InRun Ample) (first_move_by now here (CallStep x) false)).0 ≡ false
  unfolding open_effect write_effect remove_effect wstat_effect
  call_goes now (m.Walk x) =
      goes (CallStep (m.Walk x)) _ (walk_question now here.fids x)
      (λ p e. made_of (CallStep (m.Walk x)) _ (walked_at here.fids x.fid) p e
      (λ f. asks (CallStep (m.Walk x)) now f.run f.pass _ (λ rule. refl) (λ st turn. refl)))
  call_goes now (m.Open x) =
      goes (CallStep (m.Open x)) _ (open_question now here.fids x)
      (λ p e. made_of (CallStep (m.Open x)) _ (walked_at here.fids x.fid) p e
      (λ f. asks (CallStep (m.Open x)) now f.run f.pass _ (λ rule. refl) (λ st turn. refl)))
  call_goes now (m.Create x) =
      goes (CallStep (m.Create x)) _ (create_question now here.fids x) (λ p e. create_asked now x (file_in x.name) p e)
  call_goes now (m.Read x) =
      goes (CallStep (m.Read x)) _ (read_question now here.msize here.fids x)
      (λ p e. made_of (CallStep (m.Read x)) _ (opened_at here.fids x.fid) p e
      (λ f. asks (CallStep (m.Read x)) now f.run f.pass _ (λ rule. refl) (λ st turn. refl)))
  call_goes now (m.Write x) =
      goes (CallStep (m.Write x)) _ (write_question now here.fids x)
      (λ p e. made_of (CallStep (m.Write x)) _ (opened_at here.fids x.fid) p e
      (λ f. asks (CallStep (m.Write x)) now f.run f.pass _ (λ rule. refl) (λ st turn. refl)))
  call_goes now (m.Remove fid) =
      goes (CallStep (m.Remove fid)) _ (remove_question now here.fids fid)
      (λ p e. made_of (CallStep (m.Remove fid)) _ (get here.fids fid) p e
      (λ f. asks (CallStep (m.Remove fid)) now (run_of f) (pass_of f) _ (λ rule. refl) (λ st turn. refl)))
  call_goes now (m.Stat fid) =
      goes (CallStep (m.Stat fid)) _ (stat_question now here.fids fid)
      (λ p e. made_of (CallStep (m.Stat fid)) _ (get here.fids fid) p e
      (λ f. asks (CallStep (m.Stat fid)) now (run_of f) (pass_of f) _ (λ rule. refl) (λ st turn. stat_tells fid _)))
  call_goes now (m.Wstat x) =
      goes (CallStep (m.Wstat x)) _ (wstat_question now here.fids x)
      (λ p e. made_of (CallStep (m.Wstat x)) _ (get here.fids x.fid) p e
      (λ f. asks (CallStep (m.Wstat x)) now (run_of f) (pass_of f) _ (λ rule. refl) (λ st turn. refl)))

  close_goes : (now fid : ℕ)
      → says_out_of_memory (from_front w conn (CloseStep fid) (InRun Ample) (first_move_by now here (CloseStep fid) false)).0 ≡ false
  unfolding close_effect
  close_goes now fid =
      goes (CloseStep fid) _ (close_question now here.fids fid)
      (λ p e. made_of (CloseStep fid) _ (opened_at here.fids fid) p e
      (λ f. asks (CloseStep fid) now f.run f.pass _ (λ rule. refl) (λ st turn. refl)))

  -- ---- a change of the table

  clunk_tells : (o : Option RuleId) → session_says_out_of_memory (clunk_reply o) ≡ false
  clunk_tells None = refl
  clunk_tells (Some rule) = refl

  version_tells : (low spoken : Bool) (msize : ℕ) → session_says_out_of_memory (cond low (r.Error S4) (r.Version msize spoken)) ≡ false
  version_tells true spoken msize = refl
  version_tells false spoken msize = refl

  tabled_by : (x : TableStep) (b : Bool) → is_none here.msize ≡ b → (d : Bool) → is_some (least_open here.fids) ≡ d
      → session_says_out_of_memory (after_change here x).0 ≡ false
  tabled_by (t.Clunk fid) true e d g = rw e refl
  tabled_by (t.Clunk fid) false e d g = rw e (clunk_tells (first_failing (clunk_rules here.fids fid)))
  tabled_by (t.Version msize version) b e true g = rw g refl
  tabled_by (t.Version msize version) b e false g = rw g (version_tells _ _ _)
  tabled_by t.HangUp b e true g = rw g refl
  tabled_by t.HangUp b e false g = rw g refl

  table_by : (x : TableStep) (b : Bool) → is_some here.awaited ≡ b → session_says_out_of_memory (table_stepped here x).0 ≡ false
  table_by x true e = rw e refl
  table_by x false e = rw e (tabled_by x (is_none here.msize) refl (is_some (least_open here.fids)) refl)

  -- ---- each step

  on_goes : AllGiven → (now : ℕ) (x : Taken)
      → says_out_of_memory (from_front w conn x (InRun Ample) (first_move_by now here x false)).0 ≡ false
  on_goes given now (FindStep x) =
      goes (FindStep x) _ (find_question x)
      (λ p e. made_of (FindStep x) _ (tree_name_in x.aname) p e (λ (name : List ℕ × List ℕ). find_asked given x (key_in name.0 name.1)))
  on_goes given now AttachStep = attach_goes now here.awaited refl
  on_goes given now (CallStep x) = call_goes now x
  on_goes given now (CloseStep fid) = close_goes now fid
  on_goes given now (Table x) = table_by x (is_some here.awaited) refl

  on_by : AllGiven → (now : ℕ) (x : Taken) (b : Bool)
      → says_out_of_memory
      (cond {A = Reply × World} b (from_front w conn x (InRun Ample) (first_move_by now here x false)) (Connection (r.Error S5), w)).0
      ≡ false
  on_by given now x true = on_goes given now x
  on_by given now x false = refl

module _ (w : World) (number : ℕ) where
  publish_by : (none shown : Bool)
      → says_out_of_memory
      (cond {A = Reply × Registry RunOf} none (Refused state.NoSuchState, w.registry)
      (cond shown (Refused state.Twice, w.registry) (Published, with_published w.registry number))).0 ≡ false
  publish_by true shown = refl
  publish_by false true = refl
  publish_by false false = refl

-- the state of a number that is published is there
module _ (w : World) (ok : IsConsistent w) where
  shown_below : (xs : List Bool) (number : ℕ) → slice_index_or xs number false ≡ true → number < length xs
  shown_below [] number is = absurd (cc)
  shown_below (x ∷ xs) zero is = omega arith
  shown_below (x ∷ xs) (suc n) is = (let low = shown_below xs n is in omega (arith, low))

  there_below : (xs : List Recipe) (number : ℕ) → number < length xs → is_some (slice_get xs number) ≡ true
  there_below [] number low = absurd (omega (arith, low))
  there_below (x ∷ xs) zero low = refl
  there_below (x ∷ xs) (suc n) low = there_below xs n (omega (arith, low))

  all_given : (number : ℕ) → is_published w.registry number ≡ true → is_some (state_at w.registry.scene number) ≡ true
  all_given number is =
      let low = shown_below w.registry.published number is in
      let states = ok.there.states in
      mapped _ _ (mapped _ (slice_get w.registry.scene.plan number) (there_below w.registry.scene.plan number (omega (arith, low, states))))

  pub no_want : (x : Step) → says_out_of_memory (step_of w x nothing_refused).0 ≡ false
  no_want (s.Publish number) = publish_by w number _ _
  no_want (s.Reload users) = refl
  no_want (s.On conn now x) = on_by w conn all_given now (session_step x) (nat_lt conn CONNECTIONS)
