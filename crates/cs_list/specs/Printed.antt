-- What is printed of a micro-operation and of a state.
use Rattle.std.specs.Prelude.{ℕ, List, [], ◌++◌, Option, None, Some, codes, decimal}
use Rattle.cs_names.specs.Paths.{path_text}

-- the line, if it is asked for, and the path of the file if there is one
abbrev pub origin_text : Option ℕ → Option (List (List ℕ)) → List ℕ
origin_text None path = []
origin_text (Some line) None = codes " line " ++ decimal line
origin_text (Some line) (Some path) =
    codes " line " ++ (decimal line ++ (codes " " ++ path_text path))

-- the first state with an equal tree, if it is asked for
abbrev pub same_text : Option ℕ → List ℕ
same_text None = []
same_text (Some first) = codes " same " ++ decimal first
