-- What entries hold at the start, as a map that is made; for private clauses.
use Rattle.std.specs.Prelude.{◌≡◌, ◌<◌, ℕ, Bool, true, List, Option, None, Some, length}
use Rattle.std.specs.BTreeMap.{BTreeMap}
use Rattle.std.specs.FinMap.{FinMap, from_entries, get}
use Rattle.std.specs.List.{All, slice_index_or, zip}
use Rattle.std.specs.Option.{is_some}
use Rattle.cs_entries.specs.declared.entry.Entry.{Entry}
use Rattle.cs_entries.specs.declared.node.Node.{Node}
use Rattle.cs_entries.specs.declared.node.Node.TheVariants.{Directory}
use Rattle.cs_entries.specs.Rules.{entries_touched}
use Rattle.cs_entries.specs.Tables.{Table, entry_cmp}
use Rattle.cs_tree_model.specs.Tree.{Path}
use Rattle.cs_trace.specs.Traces.{Paths}
use Rattle.cs_micro.specs.Legal.{entry_op}
use Rattle.cs_micro.specs.declared.micro_op.MicroOp.{MicroOp}
use Rattle.cs_apm.specs.Rules.{op_at}
use Rattle.cs_apm.specs.Slots.{Slot}

-- ---- the start

-- what is at each of some paths
abbrev pub nodes_by_path : List Path → List Node → Paths
nodes_by_path paths nodes = from_entries (zip paths nodes)

abbrev pub node_at : List Node → ℕ → Node
node_at nodes place = slice_index_or nodes place (Directory 0)

-- ---- the map

-- some entries, each with what it holds, or with nothing
abbrev pub Held : Type 0
Held = FinMap entry_cmp Slot

abbrev pub held_of : BTreeMap Entry Slot → Held
held_of m = from_entries m.entries

abbrev pub has : Held → Entry → Bool
has h e = is_some (get h e)

-- what the entry holds by the map; nothing if it isn't there
abbrev pub joined : Option Slot → Slot
joined None = None
joined (Some slot) = slot

abbrev pub slot_in : Held → Entry → Slot
slot_in h e = joined (get h e)

-- the map has what each entry holds
abbrev pub HoldsAll : Held → Table → Type 0
HoldsAll h t = (e : Entry) → slot_in h e ≡ get t e

-- the map has the entries that the micro-operation touches
abbrev pub HasTouched : Held → MicroOp → Type 0
HasTouched h op = All (λ e. has h e ≡ true) (entries_touched (entry_op op))

abbrev pub HasAllTouched : Held → List MicroOp → ℕ → Type 0
HasAllTouched h ops n = (k : ℕ) → k < n → HasTouched h (op_at ops k)
