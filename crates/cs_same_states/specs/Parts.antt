-- What is computed once from a trace, to find equal states.
use Rattle.std.specs.Prelude.{◌≡◌, ◌⊎◌, ℕ, Bool, true, List, Some}
use Rattle.cs_trace.specs.Traces.{Trace}
use Rattle.cs_micro.specs.Micros.{micros_in}
use Rattle.cs_micro.specs.declared.micro_op.MicroOp.{MicroOp}
use Rattle.cs_apm.specs.Atlases.{IsAtlas, atlas_in}
use Rattle.cs_apm.specs.Slots.{Slot}
use Rattle.cs_state.specs.Owners.{directory_set}
use Rattle.cs_same_states.specs.Fixed.{AreFixed}
use Rattle.cs_same_states.specs.Pairs.{IsSettled, first_directory, second_directory}
use Rattle.cs_same_states.specs.Places.{AreListed}
use Rattle.cs_same_states.specs.Reaching.{changed_file}
use Rattle.cs_same_states.specs.Slots.{IsInBoth, flag_at}
use Rattle.cs_same_states.specs.declared.pairs.Pair.{Pair}
use Rattle.cs_same_states.specs.declared.parts.Parts.{Parts}

-- the tables are the trace's, and the other parts are computed from these tables
pub record AreParts (t : Trace) (parts : Parts) : Type 0 where
  pub atlas : IsAtlas t (micros_in t) (atlas_in parts.tables)
  pub touched : AreListed parts.tables.slots.items parts.tables.steps.items parts.touched
  pub fixed : AreFixed parts.tables parts.touched.ids.items parts.in_unchanged_slot.items

-- the file is in a slot that isn't listed, or in the same slot in both
abbrev pub KeepsSlot : List Bool → List Slot → List Slot → ℕ → Type 0
KeepsSlot fixed slots others n = (flag_at fixed n ≡ true) ⊎ IsInBoth slots others n

-- both sets leave the file that the micro-operation changes, if it keeps its slot, the same in the
-- part that it can change; and the directory whose owner, group and permissions it sets, also by
-- making it, with the same ones
pub record IsAlikeBy (p : Pair) (fixed : List Bool) (slots others : List Slot) (o : MicroOp)
    : Type 0 where
  pub file : (n : ℕ) → changed_file o ≡ Some n → KeepsSlot fixed slots others n → IsSettled p n o
  pub directory : (d : ℕ) → directory_set o ≡ Some d → first_directory p d ≡ second_directory p d
