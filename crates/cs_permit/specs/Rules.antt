-- The tests that the rules of many calls are made of.
use Rattle.std.specs.Prelude.{ℕ, not, Bool, true, false, List, Option, is_none}
use Rattle.std.specs.Option.{option_map, option_map_or}
use Rattle.cs_tree_model.specs.declared.mode.TheConstants.{DMAPPEND, DMEXCL}
use Rattle.cs_tree_model.specs.declared.record.MetadataBuf.{MetadataBuf}
use Rattle.cs_tree_model.specs.declared.record.Kind.{Kind}
use Rattle.cs_tree_model.specs.declared.record.Kind.TheVariants.{Directory, File}
use Rattle.cs_tree_model.specs.Record.{metadata_of}
use Rattle.cs_tree_model.specs.Tree.{Tree, parent_numbered, record_numbered}
use Rattle.cs_users.specs.declared.rights.Right.{Right}
use Rattle.cs_users.specs.Rows.{Row}
use Rattle.cs_users.specs.Rights.{has_bit, has_right}

-- what is known of the file of a number, if it is there
abbrev pub file_at : Tree → ℕ → Option MetadataBuf
file_at t n = option_map metadata_of (record_numbered t n)

-- no file has the number
abbrev pub is_gone : Tree → ℕ → Bool
is_gone t n = is_none (file_at t n)

-- a test of the file, if it is there
abbrev pub on_file : Tree → ℕ → (MetadataBuf → Bool) → Bool
on_file t n test = option_map_or test (file_at t n) false

-- the mark of a directory
abbrev pub is_directory_kind : Kind → Bool
is_directory_kind Directory = true
is_directory_kind (File length) = false

-- the file is a directory
abbrev pub is_directory : MetadataBuf → Bool
is_directory file = is_directory_kind file.kind

-- the file is append-only
abbrev pub is_append_only : MetadataBuf → Bool
is_append_only file = has_bit file.mode DMAPPEND

-- the file is exclusive
abbrev pub is_exclusive : MetadataBuf → Bool
is_exclusive file = has_bit file.mode DMEXCL

-- the user has the right on the file
abbrev pub may_access : List Row → List ℕ → Right → MetadataBuf → Bool
may_access us u right file = has_right us u file.owner file.group file.mode right

-- the file is there, and the user has not the right on it
abbrev pub lacks_right : Tree → List Row → List ℕ → Right → ℕ → Bool
lacks_right t us u right n = on_file t n (λ file. not (may_access us u right file))

-- the user has not the right on the directory of the file; the root's is the root
abbrev pub parent_lacks : Tree → List Row → List ℕ → Right → ℕ → Bool
parent_lacks t us u right n = option_map_or (lacks_right t us u right) (parent_numbered t n) false
