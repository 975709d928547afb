-- What holds while the tables of an atlas are made; for private clauses.
use Rattle.std.specs.Prelude.{◌≡◌, ◌<◌, ℕ, Bool, false, true, List, length, slice_index_or, slice_set}
use Rattle.std.specs.List.{All, Contains}
use Rattle.cs_entries.specs.declared.entry.Entry.{Entry}
use Rattle.cs_entries.specs.declared.node.Node.{Node}
use Rattle.cs_entries.specs.declared.node.Node.TheVariants.{Directory, File}
use Rattle.cs_entries.specs.Rules.{entries_touched}
use Rattle.cs_micro.specs.Legal.{entry_op}
use Rattle.cs_micro.specs.declared.micro_op.MicroOp.{MicroOp}
use Rattle.cs_micro.specs.declared.micro_op.MicroOp.TheVariants.{ChangeFileSize, CreateDirEntry}
use Rattle.cs_micro.specs.declared.micro_op.MicroOp.TheVariants.{WriteBlock}
use Rattle.cs_apm.specs.Held.{node_at}
use Rattle.cs_apm.specs.Rules.{op_at}

-- the entries that a micro-operation touches are among these
abbrev pub HasTouched : List Entry → MicroOp → Type 0
HasTouched entries op = All (Contains entries) (entries_touched (entry_op op))

abbrev pub HasAllTouched : List Entry → List MicroOp → ℕ → Type 0
HasAllTouched entries ops n = (k : ℕ) → k < n → HasTouched entries (op_at ops k)

-- it is the file of the number
abbrev pub IsFile : ℕ → Node → Type 0
IsFile n (File kind file) = file ≡ n
IsFile n (Directory d) = ⊥

-- the places with this one noted for the file, if the node is a file or a symbolic link
abbrev pub with_file_noted : List ℕ → Node → ℕ → List ℕ
with_file_noted starts (Directory d) place = starts
with_file_noted starts (File kind file) place = slice_set starts file place

-- each file that is among the first k nodes has the place of one of its nodes
abbrev pub FindsFiles : List Node → ℕ → List ℕ → Type 0
FindsFiles ns k starts = (n i : ℕ) → n < length starts → i < k → IsFile n (node_at ns i)
    → (slice_index_or starts n 0 < k) × IsFile n (node_at ns (slice_index_or starts n 0))

-- the places with this one noted for the directory, if the node is one
abbrev pub with_directory_noted : List ℕ → Node → ℕ → List ℕ
with_directory_noted places (Directory d) place = slice_set places d place
with_directory_noted places (File kind file) place = places

-- it makes a file or a symbolic link
abbrev pub makes_file : MicroOp → Bool
makes_file (CreateDirEntry e (File kind file) rights bytes) = true
makes_file _ = false

-- the flags with that of the file set whose size or bytes the micro-operation changes
abbrev pub with_file_marked : List Bool → MicroOp → List Bool
with_file_marked changed (ChangeFileSize file size) = slice_set changed file true
with_file_marked changed (WriteBlock file block start at bytes) = slice_set changed file true
with_file_marked changed _ = changed
