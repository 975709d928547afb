-- What an entry holds, as a value of a map.
use Rattle.std.specs.Prelude.{◌≡◌, ℕ, Bool, true, false, refl}
use Rattle.std.specs.Coded.{Coded, code_by, coded×, coded_ℕ, coded_bool}
use Rattle.cs_entries.specs.declared.node.FileKind.TheVariants.{Regular, Symlink}
use Rattle.cs_entries.specs.declared.node.Node.{Node}
use Rattle.cs_entries.specs.declared.node.Node.TheVariants.{Directory, File}

-- whether it is a directory, whether it is a regular file, and its number
abbrev pub parts_of : Node → Bool × (Bool × ℕ)
parts_of (Directory number) = (true, (false, number))
parts_of (File Regular file) = (false, (true, file))
parts_of (File Symlink file) = (false, (false, file))

abbrev pub file_by : Bool → ℕ → Node
file_by true file = File Regular file
file_by false file = File Symlink file

abbrev pub node_by : Bool → Bool × ℕ → Node
node_by true p = Directory p.1
node_by false p = file_by p.0 p.1

pub same_node : (node : Node) → node_by (parts_of node).0 (parts_of node).1 ≡ node
same_node (Directory number) = refl
same_node (File Regular file) = refl
same_node (File Symlink file) = refl

abbrev pub coded_node : Coded Node
coded_node =
    code_by (Bool × (Bool × ℕ)) (coded× coded_bool (coded× coded_bool coded_ℕ)) parts_of
    (λ p. node_by p.0 p.1) same_node
