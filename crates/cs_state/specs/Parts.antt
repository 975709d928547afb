-- A trace with all that its states share, and the state of a set.
use Rattle.std.specs.Prelude.{◌≡◌, ℕ, ◌+◌, Bool, List, Option, length, drop, take, slice_index_or}
use Rattle.std.specs.Option.{option_map}
use Rattle.cs_tree_model.specs.declared.record.Kind.{Kind}
use Rattle.cs_tree_model.specs.declared.record.MetadataBuf.{MetadataBuf}
use Rattle.cs_tree_model.specs.declared.record.Record.{Record}
use Rattle.cs_tree_model.specs.Tree.{Tree}
use Rattle.cs_start.specs.declared.rights.Rights.{Rights}
use Rattle.cs_entries.specs.declared.node.Node.{Node}
use Rattle.cs_apm.specs.Atlases.{content_before, directories_left, files_left, owners_left}
use Rattle.cs_apm.specs.Orders.{needs_of}
use Rattle.cs_sets.specs.Sets.{IsAllowed}
use Rattle.cs_apm.specs.Slots.{Slot}
use Rattle.cs_apm.specs.States.{Content, crash_state_of, no_content, no_rights, permission_bits}
use Rattle.cs_apm.specs.States.{record_of, start_state, state_of}
use Rattle.cs_apm.specs.Wholes.{IsWhole}
use Rattle.cs_state.specs.declared.numbers.Own.{Own}
use Rattle.cs_state.specs.declared.parts.Parts.{Parts}
use Rattle.cs_state.specs.Owners.{AreOwnerSteps}
use Rattle.cs_paths.specs.PathOrders.{moves_kept, slots_by_path}
use Rattle.cs_state.specs.Shares.{slots_left, ids_kept, places_by_path}
use Rattle.cs_state.specs.Shares.{IsShared, IsShares}
use Rattle.cs_state.specs.Steps.{members_in, AreAllSteps}

-- everything in the parts is computed from the trace
pub record AreParts (parts : Parts) : Type 0 where
  pub whole : IsWhole parts.trace parts.micros parts.tables
  pub shares : IsShares parts.micros.ops parts.tables parts.shares
  pub steps : AreAllSteps parts.trace parts.micros.ops parts.tables.changed.items parts.steps.items
  pub owner_steps : AreOwnerSteps parts.micros.ops parts.owner_steps

-- the marks are those of an allowed set
pub record AreMembers (parts : Parts) (members : List Bool) : Type 0 where
  pub long : length members ≡ length parts.micros.ops
  pub allowed : IsAllowed (needs_of parts.micros) (length parts.micros.ops) (members_in members)

-- the tree of the state of a set
abbrev pub state_in : Parts → List ℕ → Tree
state_in parts places = crash_state_of parts.trace parts.micros places

-- ---- what is read of it

-- the bytes of the file at the start, or as it is made
abbrev pub bytes_before : Parts → ℕ → List ℕ
bytes_before parts file = (content_before parts.trace parts.micros.ops file).bytes

-- what a set leaves of the file
abbrev pub file_in : Parts → List ℕ → ℕ → Content
file_in parts places file =
    slice_index_or (files_left parts.trace parts.micros.ops places) file no_content

-- what a set leaves of the owner, group and permissions of the file
abbrev pub owner_in : Parts → List ℕ → ℕ → Rights
owner_in parts places file =
    slice_index_or (owners_left parts.trace parts.micros.ops places) file no_rights

-- what a set leaves of the owner, group and permissions of the directory
abbrev pub directory_in : Parts → List ℕ → ℕ → Rights
directory_in parts places directory =
    slice_index_or (directories_left parts.trace parts.micros.ops places) directory no_rights

-- the record of what an entry holds, but for its number
abbrev pub record_in : Parts → List ℕ → Node → Record
record_in parts places node =
    record_of (state_of (start_state parts.trace) parts.micros.ops places) node

-- at most `count` bytes of a file, from an offset on; None of a directory
abbrev pub read_in : Parts → List ℕ → Node → ℕ → ℕ → Option (List ℕ)
read_in parts places node offset count =
    option_map (λ bytes. take count (drop offset bytes)) (record_in parts places node).content

-- the metadata of a record that no client has changed
abbrev pub unchanged_metadata : ℕ → Rights → ℕ → Kind → MetadataBuf
unchanged_metadata number rights bit kind = record {
  number = number;
  vers = 0;
  owner = rights.owner;
  group = rights.group;
  mode = bit + permission_bits rights.permissions;
  atime = 0;
  mtime = 0;
  muid = rights.owner;
  kind = kind;
}

-- ---- a state

-- what is at each id after the set's members, where the set keeps so many moves of directories
abbrev pub slots_shown : Parts → List ℕ → ℕ → List Slot
slots_shown parts places moved =
    slots_by_path (places_by_path parts.shares moved) (slots_left parts.tables places)

-- the set is allowed, it keeps so many moves of directories, and these are the state's own entries
pub record IsState (parts : Parts) (places : List ℕ) (moved : ℕ) (own : List Own) : Type 0 where
  pub whole : AreParts parts
  pub allowed : IsAllowed (needs_of parts.micros) (length parts.micros.ops) places
  pub counted : moved ≡ moves_kept parts.micros.ops places
  pub shared : IsShared (slots_shown parts places moved) (ids_kept parts.shares moved) own
