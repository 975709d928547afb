-- The names in a line, as before version 4.
use Rattle.std.specs.Prelude.{◌≡◌, ◌<◌, ◌≤◌, ℕ, ◌+◌, Bool, true, ◌&&◌, List, [], ◌∷◌, length}
use Rattle.std.specs.Prelude.{Option, Some, None, option_and_then, unwrap_or, is_ok, if◌then◌else◌}
use Rattle.std.specs.Result.{result_ok}
use Rattle.cs_names.specs.Legal.{user_name_in}
use Rattle.cs_names.specs.Paths.{path_in}
use Rattle.cs_names.specs.declared.limits.TheConstants.{TRACE_PATH_NAMES}
use Rattle.cs_tree_model.specs.Tree.{Path}
use Rattle.cs_trace_lines.specs.Earlier.Lines.{Change, Claims, Mode, Owner}
use Rattle.cs_start.specs.declared.rights.Rights.{Rights}

abbrev pub is_user_name : List ℕ → Bool
is_user_name text = is_ok (user_name_in text)

-- its owner and its group are legal names
abbrev pub are_user_names : Claims → Bool
are_user_names claims = is_user_name claims.owner && is_user_name claims.group

abbrev pub rights_of : Claims → Rights
rights_of claims =
    record { owner = claims.owner; group = claims.group; permissions = claims.permissions }

-- the claims of a line with these rights
abbrev pub claims_by : Rights → Claims
claims_by rights =
    record { owner = rights.owner; group = rights.group; permissions = rights.permissions }

-- the path that a text spells; None if it is not legal
abbrev pub path_of : List ℕ → Option Path
path_of text = result_ok (path_in text)

-- the same of a text that is known to spell one
abbrev pub spelled_path : List ℕ → Path
spelled_path text = unwrap_or (path_of text) []

-- a path with a name: the root has no entry
abbrev pub below_root : Path → Option Path
below_root [] = None
below_root (name ∷ names) = Some (name ∷ names)

-- the path of an entry; None if it is not legal
abbrev pub entry_path_of : List ℕ → Option Path
entry_path_of text = option_and_then below_root (path_of text)

-- the path of a new entry, with its owner and its group; None if one of them is not legal
abbrev pub new_path_of : List ℕ → Claims → Option Path
new_path_of text claims =
    option_and_then (λ p. if are_user_names claims then Some p else None) (entry_path_of text)

-- the owner and group that a chown sets are legal names; a chmod sets none
abbrev pub are_set_names : Change → Bool
are_set_names (Mode permissions) = true
are_set_names (Owner owner group) = is_user_name owner && is_user_name group

-- the path of a chmod or a chown; None if a name is not legal
abbrev pub set_path_of : List ℕ → Change → Option Path
set_path_of text change =
    option_and_then (λ p. if are_set_names change then Some p else None) (path_of text)

-- a text that spells a path of so many names, which aren't too many for a directory; with 0 names
-- the text spells nothing that is known
abbrev pub MaySpell : ℕ → List ℕ → Path → Type 0
MaySpell count text p =
    0 < count → (path_of text ≡ Some p) × (count ≡ length p) × (count ≤ TRACE_PATH_NAMES + 1)
