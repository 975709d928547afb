-- What each line that is accepted keeps.
use Rattle.std.proofs.Common.{◌≡◌, ◌≢◌, ◌⊎◌, ℕ, ◌+◌, ◌<◌, ◌≤◌, true, false, List, [], length, map, Option, Some}
use Rattle.std.specs.FinMap.{entries, get, len}
use Rattle.std.specs.List.{slice_get, sum_by}
use Rattle.std.specs.Option.{option_map_or}
use Rattle.cs_entries.specs.DirEntries.{root_home}
use Rattle.cs_entries.specs.declared.entry.Entry.{Entry}
use Rattle.cs_entries.specs.Legal.{IsTree}
use Rattle.cs_entries.specs.Paths.{at_path}
use Rattle.cs_entries.specs.Tables.{Table, held_in}
use Rattle.cs_entries.specs.declared.node.FileKind.{FileKind}
use Rattle.cs_entries.specs.declared.node.Node.{Node}
use Rattle.cs_entries.specs.declared.node.Node.TheVariants.{Directory, File}
use Rattle.cs_names.specs.declared.limits.TheConstants.{TREE_RECORDS}
use Rattle.cs_start.specs.Entries.{StartEntries, nodes_in, size_of}
use Rattle.cs_start.specs.Owned.{AreBelow}
use Rattle.cs_start.specs.declared.entry.StartEntry.{StartEntry}
use Rattle.cs_start.specs.declared.rights.Rights.{Rights}
use Rattle.cs_tree_model.specs.Maps.Values.{map_values}
use Rattle.cs_tree_model.specs.Tree.{Path}
use Rattle.cs_trace.specs.Attributes.{Attributes}
use Rattle.cs_trace.specs.Limits.{most_bytes}
use Rattle.cs_trace.specs.Operations.{AreLegal, FileSystem, made_by, system_after_all}
use Rattle.cs_trace.specs.State.{State, empty_state}
use Rattle.cs_trace.specs.Traces.{AreHomes, AreLinks, IsFileNumbered, Paths, directory_count}
use Rattle.cs_trace_lines.specs.Versions.{is_fourth}
use Rattle.cs_trace_lines.specs.declared.version.Version.{Version}
use Rattle.cs_trace.proofs.Started.{FitsNode}

-- what is at each path at the start
abbrev pub start_of : State → Paths
start_of s = map_values (λ e. e.node) s.start

-- the size of what an entry is
abbrev pub entry_size : Option StartEntry → ℕ
entry_size e = option_map_or (λ f. size_of f.content) e 0

-- the sizes of the start's files
abbrev pub sizes_of : State → List ℕ
sizes_of s = map (λ p. entry_size (get s.start p)) s.files

-- the file system at the start
abbrev pub system_of : State → Table → List Entry → FileSystem
system_of s initial homes = record { entries = initial; sizes = sizes_of s; homes = homes }

-- a file was made at a path that has its entry too
pub record HasOwn (files : List Path) (m : StartEntries) (e : StartEntry) (file : ℕ) : Type 0 where
  pub own : Path
  pub at : slice_get files file ≡ Some own
  pub entry : get m own ≡ Some (record e { own = true })

abbrev pub AreFound : List Path → StartEntries → Type 0
AreFound files m = (p : Path) (e : StartEntry) → get m p ≡ Some e → (kind : FileKind) (file : ℕ) → e.node ≡ File kind file
    → HasOwn files m e file

-- the entries at the start are a tree, whose names lead to what the paths have, and each directory was
-- made at its entry
pub record IsStart (s : State) (initial : Table) (homes : List Entry) : Type 0 where
  pub tree : IsTree (held_in initial)
  pub agree : (p : Path) → at_path (held_in initial) p ≡ get (start_of s) p
  pub at_home : AreHomes initial homes
  pub stay : (d : ℕ) (e : Entry) → slice_get homes d ≡ Some e → (d ≡ 0) ⊎ (get initial e ≡ Some (Directory d))
  pub many : length homes ≡ directory_count (nodes_in s.start)

-- what a line may count on now: files and directories have numbers that were given, and before the
-- fourth version each directory is at the entry at which it was made
pub record IsNow (version : Version) (fs : FileSystem) : Type 0 where
  pub tree : IsTree (held_in fs.entries)
  pub files : (e : Entry) (kind : FileKind) (file : ℕ) → get fs.entries e ≡ Some (File kind file) → file < length fs.sizes
  pub directories : (e : Entry) (d : ℕ) → get fs.entries e ≡ Some (Directory d) → d < length fs.homes
  pub rooted : 0 < length fs.homes
  pub root : slice_get fs.homes 0 ≡ Some root_home
  pub placed : is_fourth version ≡ false → (e : Entry) (d : ℕ) → get fs.entries e ≡ Some (Directory d) → slice_get fs.homes d ≡ Some e

-- the permissions of all files and directories are three octal digits
abbrev pub AllOctal : List Rights → Type 0
AllOctal rs = (n : ℕ) (r : Rights) → slice_get rs n ≡ Some r → r.permissions ≤ 511

pub record AreOctal (a : Attributes) : Type 0 where
  pub files : AllOctal a.files
  pub directories : AllOctal a.directories

pub record IsSound (s : State) : Type 0 where
  pub fresh : s.made ≡ 0 → s ≡ empty_state
  pub initial : Table
  pub homes : List Entry
  pub start : s.made ≢ 0 → IsStart s initial homes
  pub now : s.made ≢ 0 → IsNow s.version s.system
  pub system : s.system ≡ system_after_all (system_of s initial homes) s.operations
  pub legal : AreLegal s.version (system_of s initial homes) s.operations
  pub octal : (p : Path) (e : StartEntry) → get s.start p ≡ Some e → e.rights.permissions ≤ 511
  pub kinds : (p : Path) (e : StartEntry) → get s.start p ≡ Some e → FitsNode e.node e.content
  pub small : (p : Path) (e : StartEntry) → get s.start p ≡ Some e → size_of e.content ≤ most_bytes s.version
  pub numbered : (n : ℕ) (p : Path) → slice_get s.files n ≡ Some p → IsFileNumbered n (get (start_of s) p)
  pub linked : AreLinks (start_of s) s.links
  pub found : AreFound s.files s.start
  pub below : AreBelow (entries s.start) (length s.files)
  pub few : s.made ≤ TREE_RECORDS
  pub counted : length s.system.sizes ≤ s.made
  pub housed : length s.system.homes ≤ s.made
  pub tallied : s.made ≡ len s.start + sum_by (made_by s.version) s.operations
  pub rights : AreOctal s.attributes
