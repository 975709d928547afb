-- The paths that texts spell.
use Rattle.std.specs.Prelude.{◌≡◌, ◌≤◌, ℕ, ◌+◌, List, [], ◌∷◌, ◌++◌, length, Option, Some, None}
use Rattle.std.specs.Prelude.{IfSome, option_and_then, unwrap_or}
use Rattle.std.specs.Result.{result_ok}
use Rattle.cs_names.specs.Legal.{IsLegalName}
use Rattle.cs_names.specs.Paths.{path_in}
use Rattle.cs_names.specs.declared.limits.TheConstants.{TRACE_PATH_NAMES}
use Rattle.cs_tree_model.specs.Tree.{Path}

-- the path that a text spells; None if it is not legal
abbrev pub path_of : List ℕ → Option Path
path_of text = result_ok (path_in text)

-- the path of a text that is known to spell one
abbrev pub spelled_path : List ℕ → Path
spelled_path text = unwrap_or (path_of text) []

-- a path with a name: the root has no entry
abbrev pub below_root : Path → Option Path
below_root [] = None
below_root (name ∷ names) = Some (name ∷ names)

-- the path of an entry; None if it is not legal
abbrev pub entry_path_of : List ℕ → Option Path
entry_path_of text = option_and_then below_root (path_of text)

-- with a `/` and a legal name, the text spells the path of the name in the directory
abbrev pub IsFront : List ℕ → Path → Type 0
IsFront text p =
    (name : List ℕ) → IsLegalName name → path_of (text ++ 47 ∷ name) ≡ Some (p ++ name ∷ [])

-- the text, if it is known, is in front of the names in the directory, whose path has `count`
-- names, not too many for a directory
abbrev pub MaySpell : ℕ → Option (List ℕ) → Path → Type 0
MaySpell count text p =
    IfSome text (λ t. IsFront t p × (count ≡ length p) × (count ≤ TRACE_PATH_NAMES + 1))
