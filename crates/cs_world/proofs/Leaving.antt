-- What a step leaves of the registry: the scene, and each run that it neither reaches nor finds.
use Rattle.std.proofs.Common.{◌≡◌, ◌≢◌, ℕ, ◌+◌, ◌<◌, Bool, true, false, not, cond, List, length, Option, None, Some, Result, Err, refl, sym}
use Rattle.std.proofs.Common.{ap}
use Rattle.std.specs.Prelude.{option_and_then, slice_get}
use Rattle.std.specs.Option.{option_map_or}
use Rattle.cs_journal.specs.Runs.{RunOf}
use Rattle.cs_names.specs.declared.rule_id.RuleId.TheVariants.{S5}
use Rattle.cs_permit.specs.declared.fault.FindFault.{FindFault}
use Rattle.cs_permit.specs.declared.fault.FindFault.TheVariants.{Unpublished, Full}
use Rattle.cs_registry.specs.declared.found.Found.{Found}
use Rattle.cs_registry.specs.Finds.{found_again, made}
use Rattle.cs_registry.specs.Keys.{Key}
use Rattle.cs_registry.specs.Naming.{key_in}
use Rattle.cs_registry.specs.Publishing.{with_published}
use Rattle.cs_registry.specs.Registries.{Registry, is_published, with_users}
use Rattle.cs_registry.specs.Runs.{change, has_no_room, held_at, place_of, with_run}
use Rattle.cs_run.specs.declared.answer.Answer.TheVariants.{Denied}
use Rattle.cs_permit.specs.declared.fault.PassFault.TheVariants.{Foreign}
use Rattle.cs_session.specs.Questions.{Question, FindRun, AttachTo, CallOn, PortAnswer, AttachAnswer, CallAnswer}
use Rattle.cs_session.specs.Steps.{FirstMove, Done, Asks, first_move_by}
use Rattle.cs_session.specs.Steps as c
use Rattle.cs_users.specs.Rows.{Row}
use Rattle.cs_world.specs.declared.reply.Reply.{Reply}
use Rattle.cs_world.specs.declared.step.Step.{Step}
use Rattle.cs_world.specs.declared.step.Step.TheVariants as s
use Rattle.cs_world.specs.Asking.{answer_of_runs, found_by, given_run, with_run_at}
use Rattle.cs_world.specs.ConnectionSteps.{session_step}
use Rattle.cs_world.specs.Marks.{WorldMark, RunMark, run_mark_of, step_mark_of, refuses_own}
use Rattle.cs_world.specs.Questions.{question_of_move, question_on}
use Rattle.cs_world.specs.Reaching.{run_asked_or_found, run_asked_or_found_by}
use Rattle.cs_world.specs.Runs.{attach_on, call_on}
use Rattle.cs_world.specs.Steps.{from_front, on_connection, step_of}
use Rattle.cs_world.specs.Worlds.{World, session_at}
use Rattle.cs_world.proofs.Ending.{on_ends, publish_ends, reload_ends}
use Rattle.cs_world.proofs.Placing.{get_below}
use Rattle.cs_world.proofs.Reached.{change_other}

-- the scene stays, and so does each run but the one at the place, if one is named
pub record Leaves (r : Registry RunOf) (own : Option ℕ) (r' : Registry RunOf) : Type 0 where
  pub scene : r'.scene ≡ r.scene
  pub others : (place : ℕ) → own ≢ Some place → place < length r.runs → slice_get r'.runs place ≡ slice_get r.runs place

module _ (r : Registry RunOf) where
  same : (own : Option ℕ) → Leaves r own r
  same own = record { scene = refl; others = λ place other inside. refl }

  changes : (new : Found RunOf → Found RunOf) (n : ℕ) → Leaves r (Some n) (record r { runs = change new n r.runs })
  changes new n = record { scene = refl; others = λ place other inside. change_other new r.runs n place (λ e. other (ap Some (sym e))) }

  pushes : (key : Key) (held : RunOf) (own : Option ℕ) → Leaves r own (record r { runs = with_run r.runs key held })
  pushes key held own = record { scene = refl; others = λ place other inside. get_below r.runs _ place inside }

  -- ---- a question

  found_cases : (key : Key) (unpublished full : Bool) (o : Option ℕ) (g : Option RunOf)
      → Leaves r o
      (cond {A = Result ℕ FindFault × Registry RunOf} unpublished (Err Unpublished, r)
      (cond full (Err Full, r) (option_map_or (found_again r) o (made r key g)))).1
  found_cases key true full o g = same o
  found_cases key false true o g = same o
  found_cases key false false (Some n) g = changes (λ run. record run { finds = run.finds + 1 }) n
  found_cases key false false None None = same None
  found_cases key false false None (Some held) = pushes key held None

  finds : (mark : RunMark) (o : Option Key) → Leaves r (option_and_then (λ key. place_of key r.runs) o) (found_by r mark o).1
  finds mark None = same None
  finds mark (Some key) =
      found_cases key (not (is_published r key.number)) (has_no_room r.runs key) (place_of key r.runs) (given_run r key.number mark)

  puts : (n : ℕ) (o : Option RunOf) (new : RunOf → RunOf) (told : RunOf → PortAnswer) (none : PortAnswer)
      → Leaves r (Some n)
      (option_map_or {T = RunOf} {U = PortAnswer × Registry RunOf} (λ run. (told run, with_run_at r n (new run))) o (none, r)).1
  puts n None new told none = same (Some n)
  puts n (Some run) new told none = changes (λ (found : Found RunOf). record found { held = new run }) n

  asked : (q : Question) (m : RunMark) → Leaves r (run_asked_or_found r q) (answer_of_runs r q m).1
  asked (FindRun state_name run_name) m = finds m (key_in state_name run_name)
  asked (AttachTo now n call) m =
      puts n (held_at r.runs n) (λ run. (attach_on run now call m).1) (λ run. AttachAnswer (attach_on run now call m).0)
      (AttachAnswer (Err Foreign))
  asked (CallOn now n pass call) m =
      puts n (held_at r.runs n) (λ run. (call_on run now pass call (step_mark_of m)).1)
      (λ run. CallAnswer (call_on run now pass call (step_mark_of m)).0) (CallAnswer (Denied S5))

  -- ---- a publish, and a reload

  published_leaves : (number : ℕ) → Leaves r None (with_published r number)
  published_leaves number = record { scene = refl; others = λ place other inside. refl }

  reloaded_leaves : (users : List Row) → Leaves r None (with_users r users)
  reloaded_leaves users = record { scene = refl; others = λ place other inside. refl }

-- ---- a step

module _ (w : World) where
  fronted : (conn : ℕ) (x : c.Step) (m : RunMark) (f : FirstMove)
      → Leaves w.registry (option_and_then (run_asked_or_found w.registry) (question_of_move f)) (from_front w conn x m f).1.registry
  fronted conn x m (Done reply s) = same w.registry None
  fronted conn x m (Asks q) = asked w.registry q m

  connected : (conn now : ℕ) (x : c.Step) (mark : WorldMark)
      → Leaves w.registry (option_and_then (run_asked_or_found w.registry) (question_on w conn now x mark))
      (on_connection w conn now x mark).1.registry
  connected conn now x mark =
      on_ends w conn now x mark (λ q y. Leaves w.registry (option_and_then (run_asked_or_found w.registry) q) y.1.registry)
      (λ low. fronted conn x (run_mark_of mark) (first_move_by now (session_at w conn) x (refuses_own mark))) (λ high. same w.registry None)

  -- of a step of a connection
  pub places_stay : (conn now : ℕ) (x : c.Step) (mark : WorldMark) (place : ℕ)
      → option_and_then (run_asked_or_found w.registry) (question_on w conn now x mark) ≢ Some place → place < length w.registry.runs
      → slice_get (on_connection w conn now x mark).1.registry.runs place ≡ slice_get w.registry.runs place
  places_stay conn now x mark = (connected conn now x mark).others

  -- of any step
  pub leaves : (x : Step) (mark : WorldMark) → Leaves w.registry (run_asked_or_found_by w x mark) (step_of w x mark).1.registry
  leaves (s.Publish number) mark =
      publish_ends w.registry (λ (y : Reply × Registry RunOf). Leaves w.registry None y.1) number mark (λ fault. same w.registry None)
      (published_leaves w.registry number)
  leaves (s.Reload users) mark =
      reload_ends w.registry (λ (y : Reply × Registry RunOf). Leaves w.registry None y.1) users mark (same w.registry None)
      (reloaded_leaves w.registry users)
  leaves (s.On conn now x) mark = connected conn now (session_step x) mark

pub scene_stays : (w : World) (x : Step) (mark : WorldMark) → (step_of w x mark).1.registry.scene ≡ w.registry.scene
scene_stays w x mark = (leaves w x mark).scene
