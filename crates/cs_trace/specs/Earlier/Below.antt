-- What is below a path, as before version 4.
use Rattle.std.specs.Prelude.{ℕ, Bool, ◌&&◌, nat_lt, length, refl, Option, None, Some}
use Rattle.std.specs.Coded.{Coded, code_by, coded_ℕ, coded_list, coded_option}
use Rattle.std.specs.FinMap.{code, entries}
use Rattle.std.specs.List.{list_any, starts_with}
use Rattle.std.proofs.Common.{◌≡◌}
use Rattle.cs_names.specs.Texts.{same_bytes}
use Rattle.cs_tree_model.specs.Tree.{Path}
use Rattle.cs_trace.specs.Earlier.Operations.{Paths}
use Rattle.cs_trace.specs.Earlier.Node.{Node}
use Rattle.cs_trace.specs.Earlier.Node.{Directory, File}

abbrev pub number_of : Node → Option ℕ
number_of Directory = None
number_of (File file) = Some file

abbrev pub node_of : Option ℕ → Node
node_of None = Directory
node_of (Some file) = File file

pub same_node : (node : Node) → node_of (number_of node) ≡ node
same_node Directory = refl
same_node (File file) = refl

abbrev pub node_code : Coded Node
node_code = code_by (Option ℕ) (coded_option coded_ℕ) number_of node_of same_node

abbrev pub paths_code : Coded Paths
paths_code = code (coded_list (coded_list coded_ℕ)) node_code

-- the second path has more names than the first, and begins with them
abbrev pub is_below : Path → Path → Bool
is_below d p = nat_lt (length d) (length p) && starts_with same_bytes p d

-- something is below the path
abbrev pub has_below : Paths → Path → Bool
has_below m d = list_any (λ e. is_below d e.0) (entries m)
