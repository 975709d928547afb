-- The order and the crash states of a trace of versions 1 to 3, as before version 4.
use Rattle.std.specs.Prelude.{◌≡◌, ◌≢◌, ℕ, ◌<◌, Bool, false, true, List, Some, length}
use Rattle.std.specs.FinMap.{get}
use Rattle.std.specs.List.{list_any}
use Rattle.cs_entries.specs.declared.node.FileKind.TheVariants.{Symlink}
use Rattle.cs_entries.specs.declared.node.Node.TheVariants.{File}
use Rattle.cs_entries.specs.Legal.{IsHeld}
use Rattle.cs_entries.specs.Paths.{at_path}
use Rattle.cs_entries.specs.Tables.{held_in}
use Rattle.cs_tree_model.specs.Tree.{Path}
use Rattle.cs_trace_lines.specs.Lines.{is_early}
use Rattle.cs_trace_lines.specs.Versions.{is_fourth, profile_of}
use Rattle.cs_trace.specs.declared.operation.Covers.TheVariants as covers
use Rattle.cs_trace.specs.declared.operation.Operation.{Operation}
use Rattle.cs_trace.specs.declared.operation.Operation.TheVariants.{Sync}
use Rattle.cs_trace.specs.Traces.{Trace, directory_count, start_paths, start_table}
use Rattle.cs_trace.specs.Earlier.Same.{trace_before}
use Rattle.cs_micro.specs.Micros.{micros_in}
use Rattle.cs_micro.specs.Earlier.Micros as micros_before
use Rattle.cs_sets.specs.Chains.{by_chain}
use Rattle.cs_apm.specs.Orders.{needs_of}
use Rattle.cs_sets.specs.Sets.{IsAllowed}
use Rattle.cs_apm.specs.States.{crash_state_of}
use Rattle.cs_apm.specs.Earlier.Rules as rules_before
use Rattle.cs_apm.specs.Earlier.States as states_before

-- what needs what by the rules as they were
abbrev pub needed_before : Trace → ℕ → ℕ → Bool
needed_before t =
    (let m = micros_before.micros_in (trace_before t) in
    rules_before.needs m.ops m.syncs m.version)

-- it waits for the data of a file alone, as only the fourth version has it
abbrev pub waits_for_data : Operation → Bool
waits_for_data (Sync (covers.Data file)) = true
waits_for_data _ = false

-- a trace as the lines of the first three versions spell it: its profile is one of the two of then,
-- no line waits for data alone, and the start has no symbolic link; each number of a directory at
-- the start is that of one that stands there, and names lead there to what is at each path
pub record IsOfEarlierVersion (t : Trace) : Type 0 where
  pub version : is_fourth t.version ≡ false
  pub profile : is_early (profile_of t.version) ≡ true
  pub syncs : list_any waits_for_data t.operations ≡ false
  pub files : (p : Path) (file : ℕ) → get (start_paths t) p ≢ Some (File Symlink file)
  pub numbers : (d : ℕ) → 0 < d → d < directory_count t.nodes → IsHeld (held_in (start_table t)) d
  pub leads : (p : Path) → at_path (held_in (start_table t)) p ≡ get (start_paths t) p

-- of a trace of an earlier version what needs what by any chain is the same, and so are the allowed
-- sets, their numbers and the plan; and each allowed set leaves the same tree
pub record IsAsBefore (t : Trace) : Type 0 where
  pub chains : (i k : ℕ) → k < length (micros_in t).ops
      → by_chain (needs_of (micros_in t)) i k ≡ by_chain (needed_before t) i k
  pub states : (places : List ℕ)
      → IsAllowed (needs_of (micros_in t)) (length (micros_in t).ops) places
      → crash_state_of t (micros_in t) places
      ≡ states_before.crash_state_of (trace_before t)
      (micros_before.micros_in (trace_before t)) places
