-- A step of one of two groups of connections whose finds name runs of their own.
use Rattle.std.proofs.Common.{◌≡◌, ◌≢◌, ◌∙◌, ℕ, ◌<◌, ◌==◌, Bool, true, false, ◌&&◌, List, length, length-set, Option}
use Rattle.std.proofs.Common.{None, Some, Err, refl, sym, ap, subst, arith}
use Rattle.std.specs.Prelude.{is_none, nat_le, option_and_then}
use Rattle.std.specs.Option.{option_map, option_map_or}
use Rattle.std.proofs.lemmas.Bool.{eqb-true, eqb-false}
use Rattle.std.proofs.lemmas.List.{get_or-set_other, get_or-set_same}
use Rattle.cs_journal.specs.Runs.{RunOf}
use Rattle.cs_names.specs.declared.limits.TheConstants.{CONNECTIONS, RUNS}
use Rattle.cs_names.specs.declared.rule_id.RuleId.TheVariants.{S5}
use Rattle.cs_registry.specs.Keys.{Key}
use Rattle.cs_registry.specs.Naming.{key_in}
use Rattle.cs_registry.specs.Registries.{Registry, is_published}
use Rattle.cs_registry.specs.Runs.{place_of}
use Rattle.cs_fids.specs.Entries.{pass_of, run_of}
use Rattle.cs_permit.specs.TreeNames.{tree_name_in}
use Rattle.cs_run.specs.declared.answer.Answer.TheVariants.{Denied}
use Rattle.cs_permit.specs.declared.fault.PassFault.TheVariants.{Foreign}
use Rattle.cs_permit.specs.declared.fault.FindFault.TheVariants as fault
use Rattle.cs_session.specs.declared.reply.Reply.{Reply as Said}
use Rattle.cs_session.specs.Questions.{Question, FindRun, AttachTo, CallOn, PortAnswer, AttachAnswer, CallAnswer}
use Rattle.cs_session.specs.Sessions.{SessionState, empty_session}
use Rattle.cs_session.specs.Steps.{FirstMove, Done, Asks, reply_and_session, first_move_by}
use Rattle.cs_session.specs.Steps as c
use Rattle.cs_world.specs.declared.reply.Reply.{Reply}
use Rattle.cs_world.specs.declared.reply.Reply.TheVariants.{Connection}
use Rattle.cs_world.specs.Asking.{answer_of_runs, found_by}
use Rattle.cs_world.specs.Groups.{key_found, needs_room}
use Rattle.cs_world.specs.Marks.{RunMark, step_mark_of}
use Rattle.cs_world.specs.Places.{with_places}
use Rattle.cs_world.specs.Questions.{question_of_move}
use Rattle.cs_world.specs.Runs.{attach_on, call_on}
use Rattle.cs_world.specs.Steps.{from_front}
use Rattle.cs_world.specs.Worlds.{World, session_at, with_both}
use Rattle.cs_world.proofs.Invariant.{attach_asks}
use Rattle.cs_world.proofs.Moved.{moved_front, moved_question, moved_reply, moved_told}
use Rattle.cs_world.proofs.MovedSteps.{after_moved, front_moved}
use Rattle.cs_world.proofs.Within.{Within, after_within, asks_fixed, done_within, more_within, moved_alike, out, within_out}
use Rattle.cs_world.proofs.Tables.{call_asks, close_asks, judged_asks}
use Rattle.cs_world.proofs.AgreeRuns.{there, AgreeRuns, their}
use Rattle.cs_world.proofs.AgreeTold.{Both, Other, both_same, find_both, other_find, other_put, other_same, put_both}

-- ---- the key that a find names

named_by : (o : Option (List ℕ × List ℕ)) (state_name run_name : List ℕ)
    → option_map (λ (y : List ℕ × List ℕ). FindRun y.0 y.1) o ≡ Some (FindRun state_name run_name)
    → option_and_then (λ (y : List ℕ × List ℕ). key_in y.0 y.1) o ≡ key_in state_name run_name
named_by None state_name run_name e = absurd (cc)
named_by (Some y) state_name run_name e =
    let number : y.0 ≡ state_name = cc in
    let own : y.1 ≡ run_name = cc in
    λ i. key_in (number i) (own i)

-- a question that finds names the key of its step
find_named : (now : ℕ) (s : SessionState) (x : c.Step) (refused : Bool) (state_name run_name : List ℕ)
    → first_move_by now s x refused ≡ Asks (FindRun state_name run_name) → key_found x ≡ key_in state_name run_name
find_named now s (c.FindStep x) refused state_name run_name e =
    named_by (tree_name_in x.aname) state_name run_name (judged_asks s _ refused _ (FindRun state_name run_name) e)
find_named now s c.AttachStep refused state_name run_name e =
    absurd (let its = attach_asks now s s.awaited refl (FindRun state_name run_name) e in
    let is : FindRun state_name run_name ≡ AttachTo now its.awaited.run its.awaited.call = its.is in cc)
find_named now s (c.CallStep x) refused state_name run_name e =
    absurd (let its = call_asks now s (FindRun state_name run_name) x refused e in
    let is : FindRun state_name run_name ≡ CallOn now (run_of its.held) (pass_of its.held) its.call = its.is in cc)
find_named now s (c.CloseStep fid) refused state_name run_name e =
    absurd (let its = close_asks now s (FindRun state_name run_name) fid refused e in
    let is : FindRun state_name run_name ≡ CallOn now (run_of its.held) (pass_of its.held) its.call = its.is in cc)
find_named now s (c.Table x) refused state_name run_name e = absurd (cc)

-- ---- the limit of runs

-- no run more is needed for the key, or there is room for one
abbrev NeedsNone : Registry RunOf → Option Key → Type 0
NeedsNone r o =
    option_map_or (λ key. is_published r key.number && is_none (place_of key r.runs) && nat_le RUNS (length r.runs)) o false ≡ false

few_by : (shown new full : Bool) → (shown && new && full) ≡ false → shown ≡ true → new ≡ true → full ≡ false
few_by true true true e is also = absurd (cc)
few_by true true false e is also = refl
few_by true false full e is also = absurd (cc)
few_by false new full e is also = absurd (cc)

module _ (mine : ℕ → Bool) (ours : Key → Bool) where
  -- ---- worlds

  -- the connections of the first group are the same but for places; and each connection's places are those of its own group's runs
  pub record Agree (f : ℕ → ℕ) (w v : World) : Type 0 where
    pub runs : AgreeRuns ours f w.registry v.registry
    pub all : length w.connections ≡ CONNECTIONS
    pub rest : length v.connections ≡ CONNECTIONS
    pub own : (n : ℕ) → mine n ≡ true → session_at w n ≡ with_places f (session_at v n)
    pub inside : (n : ℕ) → mine n ≡ true → Within (there v.registry) (session_at v n)
    pub theirs : (n : ℕ) → mine n ≡ false → Within (their ours w.registry) (session_at w n)

  pub record Alike (x y : Reply × World) : Type 0 where
    pub to : ℕ → ℕ
    pub said : x.0 ≡ y.0
    pub agree : Agree to x.1 y.1

  -- ---- a step of the first group

  module _ (f : ℕ → ℕ) (w v : World) (a : Agree f w v) (conn : ℕ) (is : mine conn ≡ true) (low : conn < CONNECTIONS) where
    set_own : (to : ℕ → ℕ) (w' v' : Registry RunOf) (s' : SessionState) → AgreeRuns ours to w' v'
        → ((p : ℕ) → there v.registry p ≡ true → f p ≡ to p) → ((p : ℕ) → there v.registry p ≡ true → there v' p ≡ true)
        → ((p : ℕ) → their ours w.registry p ≡ true → their ours w' p ≡ true)
        → Within (there v') s' → Agree to (with_both w conn (with_places to s') w') (with_both v conn s' v')
    set_own to w' v' s' runs alike more still within = record {
      runs = runs;
      all = length-set w.connections conn (with_places to s') ∙ a.all;
      rest = length-set v.connections conn s' ∙ a.rest;
      own = λ n m. own_by n m (n == conn) refl;
      inside = λ n m. inside_by n m (n == conn) refl;
      theirs = λ n m. theirs_by n m;
    }
      where
        same_w : session_at (with_both w conn (with_places to s') w') conn ≡ with_places to s'
        same_w = get_or-set_same w.connections conn (with_places to s') (empty_session None) (omega (arith, low, a.all))

        same_v : session_at (with_both v conn s' v') conn ≡ s'
        same_v = get_or-set_same v.connections conn s' (empty_session None) (omega (arith, low, a.rest))

        own_by : (n : ℕ) → mine n ≡ true → (b : Bool) → (n == conn) ≡ b
            → session_at (with_both w conn (with_places to s') w') n ≡ with_places to (session_at (with_both v conn s' v') n)
        own_by n m true e =
            let at : n ≡ conn = eqb-true n conn e in
            ap (session_at (with_both w conn (with_places to s') w')) at ∙ same_w ∙ ap (with_places to)
            (sym same_v ∙ ap (session_at (with_both v conn s' v')) (sym at))
        own_by n m false e =
            get_or-set_other w.connections conn n (with_places to s') (empty_session None) (eqb-false n conn e) ∙ a.own n m ∙ moved_alike
            (there v.registry) f to alike (session_at v n) (a.inside n m)
            ∙ ap (with_places to) (sym (get_or-set_other v.connections conn n s' (empty_session None) (eqb-false n conn e)))

        inside_by : (n : ℕ) → mine n ≡ true → (b : Bool) → (n == conn) ≡ b → Within (there v') (session_at (with_both v conn s' v') n)
        inside_by n m true e =
            subst (Within (there v')) (sym (ap (session_at (with_both v conn s' v')) (eqb-true n conn e) ∙ same_v)) within
        inside_by n m false e =
            subst (Within (there v')) (sym (get_or-set_other v.connections conn n s' (empty_session None) (eqb-false n conn e)))
            (more_within (there v.registry) (there v') more (session_at v n) (a.inside n m))

        theirs_by : (n : ℕ) → mine n ≡ false → Within (their ours w') (session_at (with_both w conn (with_places to s') w') n)
        theirs_by n m =
            let other : n ≢ conn = λ same. (let e : mine n ≡ mine conn = ap mine same in absurd (cc)) in
            subst (Within (their ours w')) (sym (get_or-set_other w.connections conn n (with_places to s') (empty_session None) other))
            (more_within (their ours w.registry) (their ours w') still (session_at w n) (a.theirs n m))

    module _ (now : ℕ) (x : c.Step) (refused : Bool) (m : RunMark) (own : (k : Key) → key_found x ≡ Some k → ours k ≡ true)
        (few : option_map_or (needs_room w.registry) (question_of_move (first_move_by now (session_at w conn) x refused)) false
        ≡ false) where
      find_asks : (state_name run_name : List ℕ) (o : Option Key) → key_in state_name run_name ≡ o → key_found x ≡ o
          → NeedsNone w.registry o
          → Both ours f w.registry v.registry a.runs (found_by w.registry m o) (found_by v.registry m o)
      find_asks state_name run_name None is_key e below = both_same ours f w.registry v.registry a.runs fault.Unpublished
      find_asks state_name run_name (Some key) is_key e below =
          find_both ours f w.registry v.registry a.runs key (own key e)
          (λ shown none. few_by (is_published w.registry key.number) (is_none (place_of key w.registry.runs))
          (nat_le RUNS (length w.registry.runs)) below shown (ap (λ (z : Option ℕ). is_none z) none)) m

      -- the same find is asked in both
      finds : (state_name run_name : List ℕ) → first_move_by now (session_at v conn) x refused ≡ Asks (FindRun state_name run_name)
          → first_move_by now (session_at w conn) x refused ≡ Asks (FindRun state_name run_name)
      finds state_name run_name e =
          ap (λ (s : SessionState). first_move_by now s x refused) (a.own conn is) ∙ front_moved f now (session_at v conn) x refused ∙ ap
          (moved_front f) e

      below_limit : (state_name run_name : List ℕ) → first_move_by now (session_at v conn) x refused ≡ Asks (FindRun state_name run_name)
          → NeedsNone w.registry (key_in state_name run_name)
      below_limit state_name run_name e =
          ap (λ (F : FirstMove). option_map_or (needs_room w.registry) (question_of_move F) false) (sym (finds state_name run_name e)) ∙ few

      asks_both : (question : Question) → first_move_by now (session_at v conn) x refused ≡ Asks question
          → Both ours f w.registry v.registry a.runs (answer_of_runs w.registry (moved_question f question) m)
          (answer_of_runs v.registry question m)
      asks_both (FindRun state_name run_name) e =
          find_asks state_name run_name (key_in state_name run_name) refl
          (find_named now (session_at v conn) x refused state_name run_name e) (below_limit state_name run_name e)
      asks_both (AttachTo moment p call) e =
          let fixed : AttachTo moment p call ≡ AttachTo moment (out (there v.registry) p) call =
          asks_fixed (there v.registry) now (session_at v conn) x refused (a.inside conn is) (AttachTo moment p call) e in
          put_both ours f w.registry v.registry a.runs p
          (within_out (there v.registry) p (sym (let same : p ≡ out (there v.registry) p = cc in same)))
          (λ run. (AttachAnswer (attach_on run moment call m).0, (attach_on run moment call m).1)) (AttachAnswer (Err Foreign))
          (λ run g. refl)
      asks_both (CallOn moment p pass call) e =
          let fixed : CallOn moment p pass call ≡ CallOn moment (out (there v.registry) p) pass call =
          asks_fixed (there v.registry) now (session_at v conn) x refused (a.inside conn is) (CallOn moment p pass call) e in
          put_both ours f w.registry v.registry a.runs p
          (within_out (there v.registry) p (sym (let same : p ≡ out (there v.registry) p = cc in same)))
          (λ run. (CallAnswer (call_on run moment pass call (step_mark_of m)).0, (call_on run moment pass call (step_mark_of m)).1))
          (CallAnswer (Denied S5)) (λ run g. refl)

      own_by_front : (F : FirstMove) → first_move_by now (session_at v conn) x refused ≡ F
          → Alike (from_front w conn x m (moved_front f F)) (from_front v conn x m F)
      own_by_front (Done reply s') e = record {
        to = f;
        said = refl;
        agree = set_own f w.registry v.registry s' a.runs (λ p at. refl) (λ p at. at) (λ p at. at)
            (done_within (there v.registry) now (session_at v conn) x refused (a.inside conn is) reply s' e);
      }
      own_by_front (Asks question) e =
          let both = asks_both question e in
          let A : PortAnswer × Registry RunOf = answer_of_runs v.registry question m in
          let B : PortAnswer × Registry RunOf = answer_of_runs w.registry (moved_question f question) m in
          let same : reply_and_session (session_at w conn) x B.0 ≡ moved_reply both.to (reply_and_session (session_at v conn) x A.0) =
          (λ i. reply_and_session (a.own conn is i) x (both.told i)) ∙ ap
          (λ (s : SessionState). reply_and_session s x (moved_told both.to A.0))
          (moved_alike (there v.registry) f both.to both.alike (session_at v conn) (a.inside conn is)) ∙ after_moved both.to
          (session_at v conn) x A.0
          in
          record {
            to = both.to;
            said = ap (λ (y : Said × SessionState). Connection y.0) same;
            agree = subst
                (λ (y : Said × SessionState). Agree both.to (with_both w conn y.1 B.1)
                (with_both v conn (reply_and_session (session_at v conn) x A.0).1 A.1)) (sym same)
                (set_own both.to B.1 A.1 (reply_and_session (session_at v conn) x A.0).1 both.agree both.alike both.more both.still
                (after_within (there A.1) (session_at v conn) x A.0
                (more_within (there v.registry) (there A.1) both.more (session_at v conn) (a.inside conn is)) both.fixed));
          }

      pub own_front : Alike (from_front w conn x m (first_move_by now (session_at w conn) x refused))
          (from_front v conn x m (first_move_by now (session_at v conn) x refused))
      own_front =
          subst (λ (F : FirstMove). Alike (from_front w conn x m F)
          (from_front v conn x m (first_move_by now (session_at v conn) x refused)))
          (sym (ap (λ (s : SessionState). first_move_by now s x refused) (a.own conn is) ∙ front_moved f now (session_at v conn) x refused))
          (own_by_front (first_move_by now (session_at v conn) x refused) refl)

  -- ---- a step of the second group

  module _ (f : ℕ → ℕ) (w v : World) (a : Agree f w v) (conn : ℕ) (is : mine conn ≡ false) (low : conn < CONNECTIONS) where
    set_other : (w' : Registry RunOf) (s' : SessionState) → AgreeRuns ours f w' v.registry
        → ((p : ℕ) → their ours w.registry p ≡ true → their ours w' p ≡ true) → Within (their ours w') s'
        → Agree f (with_both w conn s' w') v
    set_other w' s' runs still within = record {
      runs = runs;
      all = length-set w.connections conn s' ∙ a.all;
      rest = a.rest;
      own = λ n m. get_or-set_other w.connections conn n s' (empty_session None)
          (λ same. (let e : mine n ≡ mine conn = ap mine same in absurd (cc))) ∙ a.own n m;
      inside = a.inside;
      theirs = λ n m. theirs_by n m (n == conn) refl;
    }
      where
        same_w : session_at (with_both w conn s' w') conn ≡ s'
        same_w = get_or-set_same w.connections conn s' (empty_session None) (omega (arith, low, a.all))

        theirs_by : (n : ℕ) → mine n ≡ false → (b : Bool) → (n == conn) ≡ b → Within (their ours w') (session_at (with_both w conn s' w') n)
        theirs_by n m true e =
            subst (Within (their ours w')) (sym (ap (session_at (with_both w conn s' w')) (eqb-true n conn e) ∙ same_w)) within
        theirs_by n m false e =
            subst (Within (their ours w')) (sym (get_or-set_other w.connections conn n s' (empty_session None) (eqb-false n conn e)))
            (more_within (their ours w.registry) (their ours w') still (session_at w n) (a.theirs n m))

    module _ (now : ℕ) (x : c.Step) (refused : Bool) (m : RunMark) (other : (k : Key) → key_found x ≡ Some k → ours k ≡ false) where
      other_asked : (state_name run_name : List ℕ) (o : Option Key) → key_in state_name run_name ≡ o → key_found x ≡ o
          → Other ours f w.registry v.registry a.runs (found_by w.registry m o)
      other_asked state_name run_name None is_key e = other_same ours f w.registry v.registry a.runs fault.Unpublished
      other_asked state_name run_name (Some key) is_key e = other_find ours f w.registry v.registry a.runs key (other key e) m

      other_asks : (question : Question) → first_move_by now (session_at w conn) x refused ≡ Asks question
          → Other ours f w.registry v.registry a.runs (answer_of_runs w.registry question m)
      other_asks (FindRun state_name run_name) e =
          other_asked state_name run_name (key_in state_name run_name) refl
          (find_named now (session_at w conn) x refused state_name run_name e)
      other_asks (AttachTo moment p call) e =
          let fixed : AttachTo moment p call ≡ AttachTo moment (out (their ours w.registry) p) call =
          asks_fixed (their ours w.registry) now (session_at w conn) x refused (a.theirs conn is) (AttachTo moment p call) e in
          other_put ours f w.registry v.registry a.runs p
          (within_out (their ours w.registry) p (sym (let same : p ≡ out (their ours w.registry) p = cc in same)))
          (λ run. (AttachAnswer (attach_on run moment call m).0, (attach_on run moment call m).1)) (AttachAnswer (Err Foreign))
          (λ run g. refl)
      other_asks (CallOn moment p pass call) e =
          let fixed : CallOn moment p pass call ≡ CallOn moment (out (their ours w.registry) p) pass call =
          asks_fixed (their ours w.registry) now (session_at w conn) x refused (a.theirs conn is) (CallOn moment p pass call) e in
          other_put ours f w.registry v.registry a.runs p
          (within_out (their ours w.registry) p (sym (let same : p ≡ out (their ours w.registry) p = cc in same)))
          (λ run. (CallAnswer (call_on run moment pass call (step_mark_of m)).0, (call_on run moment pass call (step_mark_of m)).1))
          (CallAnswer (Denied S5)) (λ run g. refl)

      other_by_front : (F : FirstMove) → first_move_by now (session_at w conn) x refused ≡ F → Agree f (from_front w conn x m F).1 v
      other_by_front (Done reply s') e =
          set_other w.registry s' a.runs (λ p at. at)
          (done_within (their ours w.registry) now (session_at w conn) x refused (a.theirs conn is) reply s' e)
      other_by_front (Asks question) e =
          let its = other_asks question e in
          let B : PortAnswer × Registry RunOf = answer_of_runs w.registry question m in
          set_other B.1 (reply_and_session (session_at w conn) x B.0).1 its.agree its.still
          (after_within (their ours B.1) (session_at w conn) x B.0
          (more_within (their ours w.registry) (their ours B.1) its.still (session_at w conn) (a.theirs conn is)) its.fixed)

      pub other_front : Agree f (from_front w conn x m (first_move_by now (session_at w conn) x refused)).1 v
      other_front = other_by_front (first_move_by now (session_at w conn) x refused) refl
