-- The steps of a message are steps of the world.
use Rattle.std.proofs.Common.{◌≡◌, ◌∙◌, ℕ, ◌<◌, Bool, true, false, List, [], ◌∷◌, ◌++◌, length, length-set, None, Err, refl, sym, ap, subst}
use Rattle.std.proofs.Common.{arith}
use Rattle.std.specs.Prelude.{nat_lt}
use Rattle.std.proofs.lemmas.Bool.Decides.{nat_tests}
use Rattle.std.proofs.lemmas.List.{get_or-set_same, set-get_or}
use Rattle.cs_journal.specs.Runs.{RunOf}
use Rattle.cs_names.specs.declared.limits.TheConstants.{CONNECTIONS}
use Rattle.cs_registry.specs.Registries.{Registry}
use Rattle.cs_session.specs.declared.message.Message.{Message}
use Rattle.cs_session.specs.declared.reply.Reply.{Reply as Said}
use Rattle.cs_session.specs.Marks as c
use Rattle.cs_session.specs.Messages.{Answers, IfElse, IsAnswered, goes_on, next_step}
use Rattle.cs_session.specs.Receiving.{IsReplied, Receives, Barred, Malformed, Short, Alone, Asked, rules_before_decoding, wire_of, tag_in}
use Rattle.cs_session.specs.Sessions.{SessionState, empty_session}
use Rattle.cs_session.proofs.OwnRules.{first_to_fail}
use Rattle.cs_session.specs.Steps.{Step, FindStep, AttachStep, CallStep, CloseStep, Table}
use Rattle.cs_wire.specs.Messages.{Message as Spelled, replies}
use Rattle.cs_world.specs.declared.reply.Reply.{Reply}
use Rattle.cs_world.specs.declared.reply.Reply.TheVariants.{Connection}
use Rattle.cs_world.specs.Asking.{IsGiven}
use Rattle.cs_world.specs.Lists.{AreOwnSteps, IsStepList, IsRepliedBySteps, IsByOwnSteps, ByItself, BySteps, FailsARule, IsNoMessage}
use Rattle.cs_world.specs.Lists.{IsOutOfMemory, TakesNoStep, reply_before, step_on, steps_of, steps_on}
use Rattle.cs_world.specs.Marks.{WorldMark}
use Rattle.cs_world.specs.Consistent.{IsConsistent}
use Rattle.cs_world.specs.Steps.{IsStep, on_connection, step_of}
use Rattle.cs_world.specs.declared.step.Step as t
use Rattle.cs_world.specs.Worlds.{World, session_at, with_both}
use Rattle.cs_world.proofs.Staying.{stays_consistent}
use Rattle.cs_world.proofs.Placing.{set_again}
use Rattle.cs_world.proofs.Stepping.{takes}

-- a step of the world is that of its connection
on_step : (w : World) (conn now : ℕ) (x : Step) (mark : WorldMark) → step_of w (step_on conn now x) mark ≡ on_connection w conn now x mark
on_step w conn now (FindStep message) mark = refl
on_step w conn now AttachStep mark = refl
on_step w conn now (CallStep message) mark = refl
on_step w conn now (CloseStep fid) mark = refl
on_step w conn now (Table change) mark = refl

-- ---- the steps of a message

-- one step before the rest of them
one_more : (message : Message) (conn now : ℕ) (w next after : World) (x : Step) (mark : WorldMark) (said reply : Said)
    → ◌≡◌ {A = Reply × World} (Connection said, next) (step_of w (step_on conn now x) mark) → x ≡ next_step message (session_at w conn)
    → goes_on message x said ≡ true → IsByOwnSteps next conn now message reply after → IsByOwnSteps w conn now message reply after
one_more message conn now w next after x mark said reply is own goes rest = record {
  marked = (x, mark) ∷ rest.marked;
  earlier = Connection said ∷ rest.earlier;
  leads = ap (reply_before (Connection said)) rest.leads ∙ ap
      (λ (y : Reply × World). reply_before y.0 (steps_of y.1 (steps_on conn now rest.marked))) is;
  own = (
    own,
    (
      said,
      ap (λ (y : Reply × World). y.0) (sym is),
      rw goes (subst (λ (v : World). AreOwnSteps message conn now v rest.marked reply) (ap (λ (y : Reply × World). y.1) is) rest.own),
    ),
  );
}

-- the last of them
last_one : (message : Message) (conn now : ℕ) (w next after : World) (x : Step) (mark : WorldMark) (said reply : Said)
    → ◌≡◌ {A = Reply × World} (Connection said, next) (step_of w (step_on conn now x) mark) → x ≡ next_step message (session_at w conn)
    → goes_on message x said ≡ false → reply ≡ said → after ≡ next → IsByOwnSteps w conn now message reply after
last_one message conn now w next after x mark said reply is own goes same there = record {
  marked = (x, mark) ∷ [];
  earlier = [];
  leads = (λ i. (Connection (same i) ∷ [], there i)) ∙ ap (λ (y : Reply × World). (y.0 ∷ [], y.1)) is;
  own = (own, (said, ap (λ (y : Reply × World). y.0) (sym is), rw goes (refl, same)));
}

module _ (message : Message) (conn now : ℕ) (low : conn < CONNECTIONS) (s' : SessionState) (r' : Registry RunOf) where
  -- what answers a message on a session, as steps of the world
  own_steps_by : (marks : List c.OwnMark) (reply : Said) (w : World) → conn < length w.connections → (s : SessionState)
      → session_at w conn ≡ s → (p : Registry RunOf) → w.registry ≡ p → Answers IsGiven now message marks s p reply s' r'
      → IsByOwnSteps w conn now message reply (with_both w conn s' r')
  own_steps_by [] reply w inside s its p registry a = absurd a
  own_steps_by (mark ∷ marks) reply w inside s its p registry (said, mid, there, t, e) =
      by (goes_on message x said) refl e
      (λ more. own_steps_by marks reply next (omega (arith, inside, length-set w.connections conn mid)) mid
      (get_or-set_same w.connections conn mid (empty_session None) inside) there refl more)
    where
      x : Step
      x = next_step message s

      next : World
      next = with_both w conn mid there

      known : nat_lt conn CONNECTIONS ≡ true
      known = grind (arith, low, nat_tests)

      taken : (m : WorldMark) × (◌≡◌ {A = Reply × World} (Connection said, next) (step_of w (step_on conn now x) m))
      taken =
          let step = takes w conn now x known said mid there s its (record { mark = mark; takes = rw registry t }) in
          (step.0, step.1 ∙ sym (on_step w conn now x step.0))

      own : x ≡ next_step message (session_at w conn)
      own = ap (next_step message) (sym its)

      again : with_both next conn s' r' ≡ with_both w conn s' r'
      again = ap (λ (c : List SessionState). record { registry = r'; connections = c }) (set_again w.connections conn mid s')

      by : (b : Bool) → goes_on message x said ≡ b
          → IfElse b (Answers IsGiven now message marks mid there reply s' r') ((marks ≡ []) × (reply ≡ said) × (s' ≡ mid) × (r' ≡ there))
          → (Answers IsGiven now message marks mid there reply s' r' → IsByOwnSteps next conn now message reply (with_both next conn s' r'))
          → IsByOwnSteps w conn now message reply (with_both w conn s' r')
      by true goes more rest =
          one_more message conn now w next (with_both w conn s' r') x taken.0 said reply taken.1 own goes
          (subst (IsByOwnSteps next conn now message reply) again (rest more))
      by false goes (none, same, s_is, r_is) rest =
          last_one message conn now w next (with_both w conn s' r') x taken.0 said reply taken.1 own goes same
          (λ i. with_both w conn (s_is i) (r_is i))

module _ (w : World) (conn now : ℕ) (low : conn < CONNECTIONS) (inside : conn < length w.connections) (s' : SessionState)
    (r' : Registry RunOf) where
  -- so is a message that was read
  pub answered_by_steps : (message : Message) (reply : Said) → IsAnswered IsGiven now message (session_at w conn) w.registry reply s' r'
      → IsByOwnSteps w conn now message reply (with_both w conn s' r')
  answered_by_steps message reply a =
      own_steps_by message conn now low s' r' a.marks reply w inside (session_at w conn) refl w.registry refl a.answers

  stays : (same : s' ≡ session_at w conn) (there : r' ≡ w.registry) → with_both w conn s' r' ≡ w
  stays same there = (λ i. with_both w conn (same i) (there i)) ∙ ap (λ (c : List SessionState). record {
    registry = w.registry;
    connections = c;
  }) (set-get_or w.connections conn (empty_session None))

  received : (bytes : List ℕ) (told : Spelled replies) (reply : Said) → told ≡ wire_of (tag_in bytes) reply → (mark : c.MessageMark)
      → Receives IsGiven now bytes (session_at w conn) w.registry reply s' r' mark
      → IsRepliedBySteps w conn now bytes told (with_both w conn s' r')
  received bytes told reply is mark (Barred rule fails (r, s, p)) =
      ByItself reply (FailsARule rule (first_to_fail (rules_before_decoding (session_at w conn).msize bytes) rule fails) r) is (stays s p)
  received bytes told reply is mark (Malformed in_front bad (r, s, p)) = ByItself reply (IsNoMessage in_front bad r) is (stays s p)
  received bytes told reply is mark (Short in_front takes_some (r, s, p)) =
      ByItself reply (IsOutOfMemory in_front takes_some r) is (stays s p)
  received bytes told reply is mark (Alone message alone in_front spelled none (r, s, p)) =
      ByItself reply (TakesNoStep message in_front spelled (none ∙ ap (λ (own : Said). Err own) (sym r))) is (stays s p)
  received bytes told reply is mark (Asked message asks marks in_front spelled some answers) =
      BySteps message asks reply spelled some is (answered_by_steps asks reply (record { marks = marks; answers = answers }))

  -- and one of bytes
  pub told_by_steps : (bytes : List ℕ) (told : Spelled replies) → IsReplied IsGiven now bytes (session_at w conn) w.registry told s' r'
      → IsRepliedBySteps w conn now bytes told (with_both w conn s' r')
  told_by_steps bytes told r = received bytes told r.reply r.wire_reply_is r.received.mark r.received.received

-- ---- consistent worlds

-- a list of steps leads from a consistent world to a consistent one
pub steps_keep : (w : World) → IsConsistent w → (marked : List (t.Step × WorldMark)) → IsConsistent (steps_of w marked).1
steps_keep w ok [] = ok
steps_keep w ok (x ∷ xs) = steps_keep (step_of w x.0 x.1).1 (stays_consistent w ok x.0 x.1) xs

-- ---- lists of steps

-- one after the other they are one
pub lists_follow : (w : World) (xs ys : List (t.Step × WorldMark))
    → steps_of w (xs ++ ys) ≡ ((steps_of w xs).0 ++ (steps_of (steps_of w xs).1 ys).0, (steps_of (steps_of w xs).1 ys).1)
lists_follow w [] ys = refl
lists_follow w (x ∷ xs) ys = ap (reply_before (step_of w x.0 x.1).0) (lists_follow (step_of w x.0 x.1).1 xs ys)

-- no step
pub no_steps : (w : World) → IsStepList w [] [] w
no_steps w = record { marked = []; steps_are = refl; leads = refl }

-- a step before others
pub one_before : (w : World) (x : t.Step) (reply : Reply) (next : World) → IsStep w x reply next
    → (steps : List t.Step) (rest : List Reply) (w' : World) → IsStepList next steps rest w' → IsStepList w (x ∷ steps) (reply ∷ rest) w'
one_before w x reply next s steps rest w' r = record {
  marked = (x, s.0) ∷ r.marked;
  steps_are = ap (λ (xs : List t.Step). x ∷ xs) r.steps_are;
  leads = ap (reply_before reply) r.leads ∙ ap (λ (y : Reply × World). reply_before y.0 (steps_of y.1 r.marked)) s.1;
}

-- ---- calls from a consistent world

pub by_step : (w w' : World) (x : t.Step) (reply : Reply) → IsStep w x reply w' → IsConsistent w → IsConsistent w'
by_step w w' x reply s ok = subst IsConsistent (sym (ap (λ (y : Reply × World). y.1) s.1)) (stays_consistent w ok x s.0)

pub by_run : (w w' : World) (steps : List t.Step) (said : List Reply) → IsStepList w steps said w' → IsConsistent w → IsConsistent w'
by_run w w' steps said r ok = subst IsConsistent (sym (ap (λ (y : List Reply × World). y.1) r.leads)) (steps_keep w ok r.marked)

by_own_steps : (w : World) (conn now : ℕ) (message : Message) (reply : Said) (w' : World) → IsByOwnSteps w conn now message reply w'
    → IsConsistent w → IsConsistent w'
by_own_steps w conn now message reply w' t ok =
    subst IsConsistent (sym (ap (λ (y : List Reply × World). y.1) t.leads)) (steps_keep w ok (steps_on conn now t.marked))

by_told : (w : World) (conn now : ℕ) (bytes : List ℕ) (told : Spelled replies) (w' : World) → IsRepliedBySteps w conn now bytes told w'
    → IsConsistent w → IsConsistent w'
by_told w conn now bytes told w' (ByItself reply own is same) ok = subst IsConsistent (sym same) ok
by_told w conn now bytes told w' (BySteps message asks reply spelled some is t) ok = by_own_steps w conn now asks reply w' t ok

module _ (w : World) (conn now : ℕ) (low : conn < CONNECTIONS) (s s' : SessionState) (its : session_at w conn ≡ s)
    (r' : Registry RunOf) where
  pub by_message : (bytes : List ℕ) (told : Spelled replies) → IsReplied IsGiven now bytes s w.registry told s' r' → IsConsistent w
      → IsConsistent (with_both w conn s' r')
  by_message bytes told r ok =
      let own : IsReplied IsGiven now bytes (session_at w conn) w.registry told s' r' = rw its r in
      by_told w conn now bytes told (with_both w conn s' r')
      (told_by_steps w conn now low (omega (arith, ok.there.all)) s' r' bytes told own) ok

  pub by_answer : (message : Message) (reply : Said) → IsAnswered IsGiven now message s w.registry reply s' r' → IsConsistent w
      → IsConsistent (with_both w conn s' r')
  by_answer message reply a ok =
      let own : IsAnswered IsGiven now message (session_at w conn) w.registry reply s' r' = rw its a in
      by_own_steps w conn now message reply (with_both w conn s' r')
      (answered_by_steps w conn now low (omega (arith, ok.there.all)) s' r' message reply own) ok
