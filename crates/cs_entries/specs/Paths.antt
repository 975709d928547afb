-- What is at a path: the names lead from the root down.
use Rattle.std.specs.Prelude.{ℕ, List, [], ◌∷◌, Option, None, Some}
use Rattle.cs_entries.specs.Entries.{Entries, Entry}
use Rattle.cs_entries.specs.declared.node.Node.{Node}
use Rattle.cs_entries.specs.declared.node.Node.TheVariants.{Directory}

abbrev pub entry_in : ℕ → List ℕ → Entry
entry_in d name = record { directory = d; name = name }

-- what the directory's entry of the name holds, if it is a directory
abbrev pub in_node : Entries → Option Node → List ℕ → Option Node
in_node m (Some (Directory d)) name = m (entry_in d name)
in_node m _ name = None

abbrev pub down : Entries → Option Node → List (List ℕ) → Option Node
down m held [] = held
down m held (name ∷ names) = down m (in_node m held name) names

abbrev pub at_path : Entries → List (List ℕ) → Option Node
at_path m path = down m (Some (Directory 0)) path
