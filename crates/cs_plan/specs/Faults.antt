-- The faults of a plan, of a scene, and of a state that is made.
use Rattle.std.specs.Prelude.{ℕ, List, ◌++◌, codes, decimal}
use Rattle.cs_micro.specs.declared.fault.MicroFault.{MicroFault}
use Rattle.cs_micro.specs.declared.fault.MicroFault.TheVariants as breaking
use Rattle.cs_plan.specs.declared.fault.MakeFault.{MakeFault}
use Rattle.cs_plan.specs.declared.fault.MakeFault.TheVariants as make
use Rattle.cs_plan.specs.declared.fault.PlanFault.{PlanFault}
use Rattle.cs_plan.specs.declared.fault.PlanFault.TheVariants as plan
use Rattle.cs_plan.specs.declared.fault.SceneFault.{SceneFault}
use Rattle.cs_plan.specs.declared.fault.SceneFault.TheVariants as scene

-- the scene's fault that the fault of a trace is
abbrev pub of_breaking : MicroFault → SceneFault
of_breaking breaking.TooMany = scene.TooMany
of_breaking breaking.Memory = scene.Memory

-- the scene's fault that the fault of a plan is
abbrev pub of_planning : PlanFault → SceneFault
of_planning plan.PlanTooLarge = scene.PlanTooLarge
of_planning (plan.PickNotAllowed w) = scene.PickNotAllowed w
of_planning plan.Memory = scene.Memory

-- ---- texts

abbrev pub pick_text : ℕ → List ℕ
pick_text w = codes "pick " ++ (decimal w ++ codes " not allowed")

abbrev pub fault_text : PlanFault → List ℕ
fault_text plan.PlanTooLarge = codes "plan too large"
fault_text (plan.PickNotAllowed w) = pick_text w
fault_text plan.Memory = codes "out of memory"

abbrev pub scene_fault_text : SceneFault → List ℕ
scene_fault_text scene.TooMany = codes "too many micro-operations"
scene_fault_text scene.PlanTooLarge = codes "plan too large"
scene_fault_text (scene.PickNotAllowed w) = pick_text w
scene_fault_text scene.Memory = codes "out of memory"

abbrev pub make_fault_text : MakeFault → List ℕ
make_fault_text make.NoSuchState = codes "no such state"
make_fault_text make.Memory = codes "out of memory"
