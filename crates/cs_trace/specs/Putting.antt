-- What one entry more at the start adds to the parts of a reader's state; for private clauses.
use Rattle.std.specs.Prelude.{ℕ, ◌+◌, ◌++◌, ◌∷◌, ◌||◌, Bool, List, [], Option, length, nat_le, nat_lt}
use Rattle.cs_entries.specs.declared.entry.Entry.{Entry}
use Rattle.cs_entries.specs.declared.node.Node.{Node}
use Rattle.cs_entries.specs.declared.node.Node.TheVariants.{Directory, File}
use Rattle.cs_entries.specs.declared.node.FileKind.TheVariants.{Regular, Symlink}
use Rattle.cs_names.specs.declared.limits.TheConstants.{TRACE_PATH_NAMES, TREE_RECORDS}
use Rattle.cs_start.specs.Entries.{size_of}
use Rattle.cs_trace_lines.specs.Lines.{StartContent, OfDirectory, OfFile, OfSymlink}
use Rattle.cs_trace.specs.Limits.{most_bytes}
use Rattle.cs_trace.specs.Operations.{number_for}
use Rattle.cs_trace.specs.State.{State}
use Rattle.cs_trace.specs.States.{bytes_of}

abbrev pub sizes_with : List ℕ → Node → Option (List ℕ) → List ℕ
sizes_with sizes (Directory d) content = sizes
sizes_with sizes (File kind file) content = sizes ++ size_of content ∷ []

-- how many files the start has, if each that has a size is one of them
abbrev pub count_with : ℕ → List ℕ → Node → ℕ
count_with count sizes (Directory d) = count
count_with count sizes (File kind file) = length sizes + 1

abbrev pub homes_with : List Entry → Entry → Node → List Entry
homes_with homes e (Directory d) = homes ++ e ∷ []
homes_with homes e (File kind file) = homes

-- what a start line makes at the entry
abbrev pub node_by : State → Entry → StartContent → Node
node_by s e OfDirectory = Directory (number_for s.version s.system.homes e)
node_by s e (OfFile bytes) = File Regular (length s.system.sizes)
node_by s e (OfSymlink target) = File Symlink (length s.system.sizes)

-- what it makes, at a path of so many names, is over a limit
abbrev pub is_too_large : State → ℕ → StartContent → Bool
is_too_large s names content =
    nat_lt TRACE_PATH_NAMES names || nat_le TREE_RECORDS s.made
    || nat_lt (most_bytes s.version) (size_of (bytes_of content))
