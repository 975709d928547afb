-- Why a plan is refused.
use Rattle.std.specs.Prelude.{◌<◌, ◌≤◌, ℕ, Bool, List, [], length, take, slice_index_or}
use Rattle.std.specs.List.{All}
use Rattle.cs_names.specs.declared.limits.TheConstants.{MICRO_OPERATIONS, PLAN_STATES}
use Rattle.cs_trace.specs.Traces.{Trace}
use Rattle.cs_micro.specs.Micros.{micros_in}
use Rattle.cs_apm.specs.Orders.{order_of}
use Rattle.cs_plan.specs.Plans.{IsAllowedIn, plan_of}
use Rattle.cs_plan.specs.declared.fault.PlanFault.{PlanFault}
use Rattle.cs_plan.specs.declared.fault.PlanFault.TheVariants.{PlanTooLarge, PickNotAllowed, Memory}
use Rattle.cs_plan.specs.declared.fault.SceneFault.{SceneFault}
use Rattle.cs_plan.specs.declared.fault.SceneFault.TheVariants as scene

-- the first pick that a crash can't leave
pub record IsFirstRefused (order : List (List Bool)) (picks : List (List ℕ)) (w : ℕ) : Type 0 where
  pub there : w < length picks
  pub before : All (IsAllowedIn order) (take w picks)
  pub refused : ¬ IsAllowedIn order (slice_index_or picks w [])

-- the fault that the plan has: its size comes first, then the picks, and out of memory last
abbrev pub IsRefused : List (List Bool) → Bool → List (List ℕ) → PlanFault → Type 0
IsRefused order holes picks PlanTooLarge = PLAN_STATES < length (plan_of order holes picks)
IsRefused order holes picks (PickNotAllowed w) =
    (length (plan_of order holes picks) ≤ PLAN_STATES) × IsFirstRefused order picks w
IsRefused order holes picks Memory =
    (length (plan_of order holes picks) ≤ PLAN_STATES) × All (IsAllowedIn order) picks

-- there are no more micro-operations than there may be
abbrev pub IsBroken : Trace → Type 0
IsBroken t = length (micros_in t).ops ≤ MICRO_OPERATIONS

-- the fault that the scene of a trace has: that of breaking the trace up comes first, then that of
-- its plan
abbrev pub IsRefusedScene : Trace → Bool → List (List ℕ) → SceneFault → Type 0
IsRefusedScene t holes picks scene.TooMany = MICRO_OPERATIONS < length (micros_in t).ops
IsRefusedScene t holes picks scene.PlanTooLarge =
    IsBroken t × IsRefused (order_of (micros_in t)) holes picks PlanTooLarge
IsRefusedScene t holes picks (scene.PickNotAllowed w) =
    IsBroken t × IsRefused (order_of (micros_in t)) holes picks (PickNotAllowed w)
IsRefusedScene t holes picks scene.Memory = IsBroken t
