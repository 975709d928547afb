-- A step of a world whose runs are watched is a step of the world, and what it puts to the run is noted.
use Rattle.std.proofs.Common.{◌≡◌, ◌∙◌, ℕ, true, false, List, ◌++◌, refl, sym, ap}
use Rattle.std.specs.Prelude.{nat_lt}
use Rattle.std.proofs.lemmas.List.{append-nil}
use Rattle.cs_names.specs.declared.limits.TheConstants.{CONNECTIONS}
use Rattle.cs_session.specs.declared.reply.Reply.{Reply as Said}
use Rattle.cs_session.specs.Marks as c
use Rattle.cs_session.specs.Sessions.{SessionState}
use Rattle.cs_session.specs.Steps.{Step, FirstMove, Done, Asks, Continues, IsStepTaken, first_move}
use Rattle.cs_world.specs.declared.run_call.RunCall.{RunCall}
use Rattle.cs_world.specs.declared.reply.Reply.{Reply}
use Rattle.cs_world.specs.declared.reply.Reply.TheVariants.{Connection}
use Rattle.cs_world.specs.declared.watched.WatchedRuns.{WatchedRuns}
use Rattle.cs_world.specs.Marks.{WorldMark, Below, RunMark}
use Rattle.cs_world.specs.Projections.{calls_of, puts_of}
use Rattle.cs_world.specs.Questions.{question_on}
use Rattle.cs_world.specs.Steps.{on_connection, reply_and_world, continued_from}
use Rattle.cs_world.specs.Watching.{IsWatched}
use Rattle.cs_world.specs.Worlds.{World, session_at, with_both}
use Rattle.cs_world.proofs.Stepping.{mark_of, same_table, still}

module _ (w : World) (old : WatchedRuns) (runs : old.runs ≡ w.registry) (conn now : ℕ) (x : Step) (inside : nat_lt conn CONNECTIONS ≡ true)
    (reply : Said) (s' : SessionState) (new : WatchedRuns) where
  abbrev Puts : WorldMark → List (RunCall × RunMark)
  Puts mark = puts_of w old.key mark (question_on w conn now x mark)

  -- with some mark it is the step, and its calls are noted
  pub record IsNoted : Type 0 where
    pub mark : WorldMark
    pub steps : ◌≡◌ {A = Reply × World} (Connection reply, with_both w conn s' new.runs) (on_connection w conn now x mark)
    pub key : new.key ≡ old.key
    pub noted : new.is_short ≡ false → (old.is_short ≡ false)
        × (new.calls.items ≡ old.calls.items ++ calls_of (Puts mark))

  by_front : (f : FirstMove) (mark : c.OwnMark) → first_move now (session_at w conn) x mark ≡ f
      → Continues IsWatched f (session_at w conn) old x reply s' new → IsNoted
  by_front (Done said t) mark e (a, b, d) = record {
    mark = mark_of mark;
    steps = rw (inside, same_table mark, e)
        (λ i. (Connection (a i), with_both w conn (b i) ((ap (λ (y : WatchedRuns). y.runs) d ∙ runs) i)));
    key = ap (λ (y : WatchedRuns). y.key) d;
    noted = λ ample. (
      ap (λ (y : WatchedRuns). y.is_short) (sym d) ∙ ample,
      rw (inside, same_table mark, e)
          (ap (λ (y : WatchedRuns). y.calls.items) d ∙ sym (append-nil old.calls.items)),
    );
  }
  by_front (Asks q) mark e (answer, its, goes) =
      let asks = still now (session_at w conn) x (c.refuses_own mark) q e in
      record {
        mark = Below its.mark;
        steps = rw (inside, asks, ← runs) (ap (reply_and_world w conn new.runs) goes ∙ ap (continued_from w conn x) its.answers);
        key = its.key;
        noted = λ ample. (let one = its.noted ample in (one.0, rw (inside, asks, ← runs) one.1));
      }

  pub notes : (s : SessionState) → session_at w conn ≡ s → IsStepTaken IsWatched now s old x reply s' new → IsNoted
  notes s its t =
      let own : IsStepTaken IsWatched now (session_at w conn) old x reply s' new = rw its t in
      by_front (first_move now (session_at w conn) x own.mark) own.mark refl own.takes
