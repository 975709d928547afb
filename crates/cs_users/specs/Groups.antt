-- The rows of a users file by their places, which are counted from 0.
use Rattle.std.specs.Prelude.{ℕ, List, [], Option, None, if◌then◌else◌, length, slice_get}
use Rattle.std.specs.List.{filter, position, range_with_len}
use Rattle.std.specs.Option.{option_map_or}
use Rattle.cs_users.specs.Rows.{Row, none_name}
use Rattle.cs_users.specs.Members.{is_member, same_name}

-- the name of the row at that place; past the last row no name
abbrev pub name_at : List Row → ℕ → List ℕ
name_at rows place = option_map_or (λ row. row.name) (slice_get rows place) []

-- the place of the row of that name
abbrev pub place_of : List Row → List ℕ → Option ℕ
place_of rows name = position (λ row. same_name row.name name) rows

-- the place of the row of that name, unless it is that of `none`
abbrev pub somebody_at : List Row → List ℕ → Option ℕ
somebody_at rows name = if same_name name none_name then None else place_of rows name

-- the place of the leader that the line at that place names, if it is that of a row, and not of
-- `none`
abbrev pub leader_of : List Row → ℕ → Option ℕ
leader_of rows group =
    option_map_or (λ row. somebody_at rows row.leader) (slice_get rows group) None

-- the places of the members of the group at that place, in ascending order
unfoldable pub members_of : List Row → ℕ → List ℕ
members_of rows group =
    filter (λ user. is_member rows (name_at rows user) (name_at rows group))
    (range_with_len 0 (length rows))
