-- Two groups of connections, and the steps of the first without those of the second.
use Rattle.std.specs.Prelude.{◌≡◌, ℕ, ◌&&◌, not, nat_le, Bool, true, false, List, [], ◌∷◌, Option}
use Rattle.std.specs.Prelude.{None, filter, is_none, length, option_and_then, if◌then◌else◌}
use Rattle.std.specs.List.{list_any}
use Rattle.std.specs.Option.{option_map_or}
use Rattle.cs_names.specs.declared.limits.TheConstants.{RUNS}
use Rattle.cs_journal.specs.Runs.{RunOf}
use Rattle.cs_permit.specs.TreeNames.{tree_name_in}
use Rattle.cs_registry.specs.Keys.{Key, same_key}
use Rattle.cs_registry.specs.Naming.{key_in}
use Rattle.cs_registry.specs.Registries.{Registry, is_published}
use Rattle.cs_registry.specs.Runs.{place_of}
use Rattle.cs_session.specs.declared.message.AttachMessage.{AttachMessage}
use Rattle.cs_session.specs.Questions.{Question, FindRun}
use Rattle.cs_session.specs.Steps.{Step as SessionStep, FindStep}
use Rattle.cs_world.specs.declared.reply.Reply.{Reply}
use Rattle.cs_world.specs.declared.step.Step.{Step}
use Rattle.cs_world.specs.declared.step.Step.TheVariants.{On}
use Rattle.cs_world.specs.Marks.{WorldMark}
use Rattle.cs_world.specs.ConnectionSteps.{session_step}
use Rattle.cs_world.specs.Questions.{question_of_step}
use Rattle.cs_world.specs.Steps.{step_of}
use Rattle.cs_world.specs.Worlds.{World}

-- ---- the steps of a group

-- a step of a connection of the first group, a publish, or a reload
abbrev pub is_first : (ℕ → Bool) → Step → Bool
is_first first (On conn now step) = first conn
is_first first other = true

-- the steps of the first group, and their replies among those of all steps
abbrev pub first_steps : (ℕ → Bool) → List (Step × WorldMark) → List (Step × WorldMark)
first_steps first marked = filter (λ one. is_first first one.0) marked

abbrev pub first_replies : (ℕ → Bool) → List (Step × WorldMark) → List Reply → List Reply
first_replies first [] replies = []
first_replies first (one ∷ rest) [] = []
first_replies first (one ∷ rest) (reply ∷ replies) =
    if is_first first one.0
    then reply ∷ first_replies first rest replies
    else first_replies first rest replies

-- ---- the runs of a group

-- the key of the run that an attach names, if its tree's name is one
abbrev pub key_named : AttachMessage → Option Key
key_named message =
    option_and_then (λ name. key_in name.0 name.1) (tree_name_in message.aname)

abbrev pub key_found : SessionStep → Option Key
key_found (FindStep message) = key_named message
key_found other = None

-- the key that a step names, if it is a find
abbrev pub key_of : Step → Option Key
key_of (On conn now step) = key_found (session_step step)
key_of other = None

-- a find of the group names the key
abbrev pub finds_key : (Step → Bool) → Key → Step × WorldMark → Bool
finds_key group key one = group one.0 && option_map_or (same_key key) (key_of one.0) false

abbrev pub is_named : (Step → Bool) → List (Step × WorldMark) → Key → Bool
is_named group marked key = list_any (finds_key group key) marked

-- no run is named by finds of both groups
abbrev pub AreApart : (ℕ → Bool) → List (Step × WorldMark) → Type 0
AreApart first marked = (key : Key)
    → (is_named (is_first first) marked key
    && is_named (λ step. not (is_first first step)) marked key) ≡ false

-- ---- the limit of runs

-- a question finds a run of a published state that isn't there, and there are as many as can be
abbrev pub needs_room : Registry RunOf → Question → Bool
needs_room registry (FindRun state_name run_name) =
    option_map_or
    (λ key. is_published registry key.number && is_none (place_of key registry.runs)
    && nat_le RUNS (length registry.runs))
    (key_in state_name run_name) false
needs_room registry other = false

-- a step asks such a question
abbrev pub meets_limit : World → Step → WorldMark → Bool
meets_limit world step mark =
    option_map_or (needs_room world.registry) (question_of_step world step mark) false

abbrev pub NoneMeetsLimit : World → List (Step × WorldMark) → Type 0
NoneMeetsLimit world [] = Unit {0}
NoneMeetsLimit world (one ∷ rest) =
    (meets_limit world one.0 one.1 ≡ false)
    × NoneMeetsLimit (step_of world one.0 one.1).1 rest
