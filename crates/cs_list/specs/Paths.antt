-- Which paths a file has, by the lines of the trace up to a micro-operation.
use Rattle.std.specs.Prelude.{◌≡◌, ℕ, List, Option, Some, IfSome}
use Rattle.cs_entries.specs.Entries.{all}
use Rattle.cs_entries.specs.Paths.{at_path}
use Rattle.cs_entries.specs.Tables.{Table, held_in}
use Rattle.cs_entries.specs.declared.node.FileKind.{FileKind}
use Rattle.cs_entries.specs.declared.node.Node.TheVariants.{File}
use Rattle.cs_trace.specs.Traces.{start_table}
use Rattle.cs_micro.specs.declared.micro_op.MicroOp.{MicroOp}
use Rattle.cs_apm.specs.Laws.Members.{run}
use Rattle.cs_apm.specs.Rules.{op_at}
use Rattle.cs_apm.specs.States.{entries_after}
use Rattle.cs_plan.specs.Scenes.{Scene, micros_of}
use Rattle.cs_same_states.specs.Reaching.{changed_file}

-- what each entry holds after the micro-operations before this place, and no other
abbrev pub entries_before : Scene → ℕ → Table
entries_before s place = run entries_after all (start_table s.trace) (micros_of s).ops place

-- the path leads to a file or symbolic link that the micro-operation changes
abbrev pub LeadsToChanged : Table → MicroOp → List (List ℕ) → Type 0
LeadsToChanged t op path =
    (kind : FileKind) × (file : ℕ) × (changed_file op ≡ Some file)
    × (at_path (held_in t) path ≡ Some (File kind file))

-- if there is a path, it leads to what the micro-operation at the place changes, before that
abbrev pub IsPathAt : Scene → ℕ → Option (List (List ℕ)) → Type 0
IsPathAt s place path =
    IfSome path (LeadsToChanged (entries_before s place) (op_at (micros_of s).ops place))
