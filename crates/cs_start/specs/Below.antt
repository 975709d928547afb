-- What is below a path.
use Rattle.std.specs.Prelude.{Bool, ◌&&◌, nat_lt, length}
use Rattle.std.specs.List.{starts_with}
use Rattle.cs_names.specs.Texts.{same_bytes}
use Rattle.cs_tree_model.specs.Tree.{Path}

-- the second path has more names than the first, and begins with them
abbrev pub is_below : Path → Path → Bool
is_below d p = nat_lt (length d) (length p) && starts_with same_bytes p d
