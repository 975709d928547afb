-- A trace with its plan: which state has which number, and what it is.
use Rattle.std.specs.Prelude.{◌≡◌, ◌≤◌, ℕ, Bool, true, false, List, length, count_by, Option, Some}
use Rattle.std.specs.Prelude.{slice_get}
use Rattle.std.specs.List.{All}
use Rattle.std.specs.Option.{option_map}
use Rattle.cs_names.specs.declared.limits.TheConstants.{PLAN_STATES, TREE_RECORDS}
use Rattle.cs_tree_model.specs.declared.record.Record.{Record}
use Rattle.cs_tree_model.specs.Tree.{IsTree, Path, Tree, record_at}
use Rattle.cs_trace.specs.Traces.{Trace}
use Rattle.cs_micro.specs.declared.micro_op.MicroOp.{MicroOp}
use Rattle.cs_micro.specs.declared.micro_op.MicroOp.TheVariants.{Say}
use Rattle.cs_micro.specs.Micros.{Micros, micros_in}
use Rattle.cs_apm.specs.Orders.{order_of}
use Rattle.cs_apm.specs.Rules.{op_at}
use Rattle.cs_apm.specs.States.{crash_state_of}
use Rattle.cs_plan.specs.Plans.{IsAllowedIn, IsWithin, plan_of, set_in}
use Rattle.cs_plan.specs.declared.recipe.Recipe.{Recipe}

pub record Scene : Type 0 where
  pub trace : Trace
  pub plan : List Recipe

-- the trace's micro-operations, and their order
abbrev pub micros_of : Scene → Micros
micros_of s = micros_in s.trace

abbrev pub order_in : Scene → List (List Bool)
order_in s = order_of (micros_of s)

-- ---- the state of a number

-- its micro-operations
abbrev pub set_at : Scene → ℕ → Option (List ℕ)
set_at s number = option_map (set_in (order_in s)) (slice_get s.plan number)

-- the tree that a crash leaves if exactly these are on the disk
abbrev pub state_at : Scene → ℕ → Option Tree
state_at s number = option_map (crash_state_of s.trace (micros_of s)) (set_at s number)

abbrev pub is_say : MicroOp → Bool
is_say Say = true
is_say _ = false

-- how many acknowledged lines there are among these micro-operations
abbrev pub says_of : List MicroOp → List ℕ → ℕ
says_of ops places = count_by (λ place. is_say (op_at ops place)) places

abbrev pub says_at : Scene → ℕ → Option ℕ
says_at s number = option_map (says_of (micros_of s).ops) (set_at s number)

-- ---- what is known of it

-- the plan is one of the order, and no larger than it may be
pub record IsPlan (order : List (List Bool)) (plan : List Recipe) : Type 0 where
  pub holes : Bool
  pub picks : List (List ℕ)
  pub listed : plan ≡ plan_of order holes picks
  pub few : length plan ≤ PLAN_STATES
  pub within : All (IsWithin (length order)) plan
  pub allowed : All (λ recipe. IsAllowedIn order (set_in order recipe)) plan

-- ---- a state that was made

pub record Published : Type 0 where
  pub number : ℕ
  pub scene : Scene
  pub tree : Tree

-- nothing has changed the tree yet, and it has no more records than a tree may have
pub record IsNew (t : Tree) : Type 0 where
  pub versions : (p : Path) (r : Record) → record_at t p ≡ Some r → r.vers ≡ 0
  pub few : t.next ≤ TREE_RECORDS

-- the tree is that of its number in its scene
pub record IsPublished (p : Published) : Type 0 where
  pub state : state_at p.scene p.number ≡ Some p.tree
  pub tree : IsTree p.tree
  pub unchanged : IsNew p.tree
