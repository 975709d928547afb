-- The names in a line: paths, users and groups.
use Rattle.std.specs.Prelude.{ℕ, Bool, true, ◌&&◌, List, Option, Some, None, option_and_then, is_ok}
use Rattle.std.specs.Prelude.{if◌then◌else◌}
use Rattle.cs_names.specs.Legal.{user_name_in}
use Rattle.cs_start.specs.Names.{entry_path_of, path_of}
use Rattle.cs_start.specs.declared.rights.Rights.{Rights}
use Rattle.cs_tree_model.specs.Tree.{Path}
use Rattle.cs_trace_lines.specs.Lines.{Change, Mode, Owner}
use Rattle.cs_trace_lines.specs.Values.{Claims}

abbrev pub is_user_name : List ℕ → Bool
is_user_name text = is_ok (user_name_in text)

-- its owner and its group are legal names
abbrev pub are_user_names : Claims → Bool
are_user_names claims = is_user_name claims.owner && is_user_name claims.group

abbrev pub rights_of : Claims → Rights
rights_of claims =
    record { owner = claims.owner; group = claims.group; permissions = claims.permissions }

-- the claims of a line with these rights
abbrev pub claims_by : Rights → Claims
claims_by rights =
    record { owner = rights.owner; group = rights.group; permissions = rights.permissions }

-- the path of a new entry, with its owner and its group; None if one of them is not legal
abbrev pub new_path_of : List ℕ → Claims → Option Path
new_path_of text claims =
    option_and_then (λ p. if are_user_names claims then Some p else None) (entry_path_of text)

-- the owner and group that a chown sets are legal names; a chmod sets none
abbrev pub are_set_names : Change → Bool
are_set_names (Mode permissions) = true
are_set_names (Owner owner group) = is_user_name owner && is_user_name group

-- the path of a chmod or a chown; None if a name is not legal
abbrev pub set_path_of : List ℕ → Change → Option Path
set_path_of text change =
    option_and_then (λ p. if are_set_names change then Some p else None) (path_of text)
