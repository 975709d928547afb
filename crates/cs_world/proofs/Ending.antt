-- What is true of each end of a publish, of a reload, and of a step of a connection, is true of the step.
use Rattle.std.proofs.Common.{◌≡◌, ℕ, ◌<◌, ◌≤◌, Bool, true, false, not, cond, List, length, Option, None, refl, arith}
use Rattle.std.specs.Prelude.{nat_lt}
use Rattle.std.proofs.lemmas.Bool.Decides.{nat_tests}
use Rattle.cs_journal.specs.Runs.{RunOf}
use Rattle.cs_names.specs.declared.limits.TheConstants.{CONNECTIONS}
use Rattle.cs_names.specs.declared.rule_id.RuleId.TheVariants.{S5}
use Rattle.cs_registry.specs.Publishing.{with_published}
use Rattle.cs_registry.specs.Registries.{Registry, is_published, with_users}
use Rattle.cs_session.specs.declared.reply.Reply.TheVariants.{Error}
use Rattle.cs_session.specs.Questions.{Question}
use Rattle.cs_session.specs.Steps.{FirstMove, Step, first_move_by}
use Rattle.cs_users.specs.Rows.{Row}
use Rattle.cs_world.specs.declared.reply.Reply.{Reply}
use Rattle.cs_world.specs.declared.reply.Reply.TheVariants.{Connection, NotReloaded, Published, Reloaded, NotPublished}
use Rattle.cs_world.specs.declared.reply.StateFault.{StateFault}
use Rattle.cs_world.specs.declared.reply.StateFault.TheVariants.{NoSuchState, Twice, Memory}
use Rattle.cs_world.specs.Marks.{WorldMark, run_mark_of, refuses_keeping, refuses_state, refuses_own, refuses_users}
use Rattle.cs_world.specs.Publishing.{publish_step}
use Rattle.cs_world.specs.Questions.{question_of_move, question_on}
use Rattle.cs_world.specs.Reloading.{reload_step}
use Rattle.cs_world.specs.Steps.{from_front, on_connection}
use Rattle.cs_world.specs.Worlds.{World, session_at}

module _ (r : Registry RunOf) (P : Reply × Registry RunOf → Type 0) where
  publish_by : (number : ℕ) → ((fault : StateFault) → P (NotPublished fault, r)) → P (Published, with_published r number) → (a b c d : Bool)
      → P (cond {A = Reply × Registry RunOf} a (NotPublished NoSuchState, r)
      (cond b (NotPublished Memory, r)
      (cond c (NotPublished Twice, r) (cond d (NotPublished Memory, r) (Published, with_published r number)))))
  publish_by number stays more true b c d = stays NoSuchState
  publish_by number stays more false true c d = stays Memory
  publish_by number stays more false false true d = stays Twice
  publish_by number stays more false false false true = stays Memory
  publish_by number stays more false false false false = more

  pub publish_ends : (number : ℕ) (mark : WorldMark) → ((fault : StateFault) → P (NotPublished fault, r))
      → P (Published, with_published r number) → P (publish_step r number mark)
  publish_ends number mark stays more =
      publish_by number stays more (not (nat_lt number (length r.scene.plan))) (refuses_state mark) (is_published r number)
      (refuses_keeping mark)

  reload_by : (users : List Row) → P (NotReloaded, r) → P (Reloaded, with_users r users) → (refused : Bool)
      → P (cond {A = Reply × Registry RunOf} refused (NotReloaded, r) (Reloaded, with_users r users))
  reload_by users stays more true = stays
  reload_by users stays more false = more

  pub reload_ends : (users : List Row) (mark : WorldMark) → P (NotReloaded, r) → P (Reloaded, with_users r users)
      → P (reload_step r users mark)
  reload_ends users mark stays more = reload_by users stays more (refuses_users mark)

-- by its question too
module _ (w : World) (conn now : ℕ) (x : Step) (mark : WorldMark) (P : Option Question → Reply × World → Type 0) where
  abbrev its_front : FirstMove
  its_front = first_move_by now (session_at w conn) x (refuses_own mark)

  on_by : (conn < CONNECTIONS → P (question_of_move its_front) (from_front w conn x (run_mark_of mark) its_front))
      → (CONNECTIONS ≤ conn → P None (Connection (Error S5), w)) → (b : Bool) → nat_lt conn CONNECTIONS ≡ b
      → P (cond b (question_of_move its_front) None)
      (cond {A = Reply × World} b (from_front w conn x (run_mark_of mark) its_front) (Connection (Error S5), w))
  on_by within beyond true is = within (grind (arith, nat_tests))
  on_by within beyond false is = beyond (grind (arith, nat_tests))

  pub on_ends : (conn < CONNECTIONS → P (question_of_move its_front) (from_front w conn x (run_mark_of mark) its_front))
      → (CONNECTIONS ≤ conn → P None (Connection (Error S5), w)) → P (question_on w conn now x mark) (on_connection w conn now x mark)
  on_ends within beyond = on_by within beyond (nat_lt conn CONNECTIONS) refl
