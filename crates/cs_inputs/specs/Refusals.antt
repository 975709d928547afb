-- The first fault of inputs.
use Rattle.std.specs.Prelude.{◌≡◌, ℕ, ⊤, Bool, IsUtf8, List, Ok, Err}
use Rattle.cs_plan.specs.Refusals.{IsRefusedScene}
use Rattle.cs_plan.specs.declared.fault.SceneFault.{SceneFault}
use Rattle.cs_trace.specs.Traces.{Trace, trace_in}
use Rattle.cs_users.specs.Reading.{users_in}
use Rattle.cs_inputs.specs.Picks.{picks_in}
use Rattle.cs_inputs.specs.declared.fault.ProgramFault.{ProgramFault}
use Rattle.cs_inputs.specs.declared.fault.ProgramFault.TheVariants.{TraceNotText, Trace as OfTrace}
use Rattle.cs_inputs.specs.declared.fault.ProgramFault.TheVariants.{Users, Picks, Scene, Memory}
use Rattle.cs_inputs.specs.declared.inputs.Inputs.{Inputs}

-- the trace and the picks are read, and no scene can be made of both
pub record IsRefusedWith (inputs : Inputs) (fault : SceneFault) : Type 0 where
  pub trace : Trace
  pub picks : List (List ℕ)
  pub traced : trace_in inputs.trace.now ≡ Ok trace
  pub picked : picks_in inputs.picks.now ≡ Ok picks
  pub refused : IsRefusedScene trace inputs.holes picks fault

-- the first fault of inputs, or memory that ran out: that of the trace comes first, then that of
-- the picks, then that of the scene
abbrev pub IsRefused : Inputs → ProgramFault → Type 0
IsRefused inputs Memory = ⊤
IsRefused inputs TraceNotText = ¬ (IsUtf8 inputs.trace.now)
IsRefused inputs (OfTrace fault) = trace_in inputs.trace.now ≡ Err fault
IsRefused inputs (Picks fault) =
    ((trace : Trace) × (trace_in inputs.trace.now ≡ Ok trace))
    × (picks_in inputs.picks.now ≡ Err fault)
IsRefused inputs (Scene fault) = IsRefusedWith inputs fault
IsRefused inputs other = ⊥

-- ---- the fault of one part, or memory that ran out

abbrev pub IsTraceFault : List ℕ → ProgramFault → Type 0
IsTraceFault file Memory = ⊤
IsTraceFault file TraceNotText = ¬ (IsUtf8 file)
IsTraceFault file (OfTrace fault) = trace_in file ≡ Err fault
IsTraceFault file other = ⊥

abbrev pub IsPicksFault : List ℕ → ProgramFault → Type 0
IsPicksFault file Memory = ⊤
IsPicksFault file (Picks fault) = picks_in file ≡ Err fault
IsPicksFault file other = ⊥

abbrev pub IsSceneFault : Trace → Bool → List (List ℕ) → ProgramFault → Type 0
IsSceneFault trace holes picks Memory = ⊤
IsSceneFault trace holes picks (Scene fault) = IsRefusedScene trace holes picks fault
IsSceneFault trace holes picks other = ⊥

abbrev pub IsUsersFault : List ℕ → ProgramFault → Type 0
IsUsersFault file Memory = ⊤
IsUsersFault file (Users fault) = users_in file ≡ Err fault
IsUsersFault file other = ⊥
