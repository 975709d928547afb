-- Who is known, who is a member of a group and who leads it, by the rows of the users file.
use Rattle.std.specs.Prelude.{◌≡◌, ◌≢◌, ◌⊎◌, ℕ, Bool, ◌&&◌, ◌||◌, not, List, [], Any, Contains}
use Rattle.std.specs.List.{list_any}
use Rattle.cs_names.specs.Texts.{same_bytes}
use Rattle.cs_users.specs.Rows.{Row, none_name}

-- a row has that name
abbrev pub IsKnown : List Row → List ℕ → Type 0
IsKnown rows name = Any (λ row. row.name ≡ name) rows

-- the row of the group lists the user
abbrev pub Lists : List Row → List ℕ → List ℕ → Type 0
Lists rows group user = Any (λ row. (row.name ≡ group) × Contains row.members user) rows

-- the row of the group has that leader
abbrev pub HasLeader : List Row → List ℕ → List ℕ → Type 0
HasLeader rows group leader = Any (λ row. (row.name ≡ group) × (row.leader ≡ leader)) rows

-- both are known, the user is not `none`, and is the group itself or listed by it
pub record IsMember (rows : List Row) (user group : List ℕ) : Type 0 where
  pub user_known : IsKnown rows user
  pub group_known : IsKnown rows group
  pub somebody : user ≢ none_name
  pub belongs : (user ≡ group) ⊎ Lists rows group user

-- both are known, the user is not `none`, and is the group's leader, or the group has none and the
-- user is a member
pub record IsLeader (rows : List Row) (user group : List ℕ) : Type 0 where
  pub user_known : IsKnown rows user
  pub group_known : IsKnown rows group
  pub somebody : user ≢ none_name
  pub leads : HasLeader rows group user ⊎ (HasLeader rows group [] × IsMember rows user group)

-- the tests of the same: two names have the same bytes
abbrev pub same_name : List ℕ → List ℕ → Bool
same_name = same_bytes

-- a row has that name
abbrev pub is_known : List Row → List ℕ → Bool
is_known rows name = list_any (λ row. same_name row.name name) rows

-- the row of the group lists the user
abbrev pub lists_member : List Row → List ℕ → List ℕ → Bool
lists_member rows group user =
    list_any (λ row. same_name row.name group
    && list_any (λ member. same_name member user) row.members) rows

-- the row of the group has that leader
abbrev pub has_leader : List Row → List ℕ → List ℕ → Bool
has_leader rows group leader =
    list_any (λ row. same_name row.name group && same_name row.leader leader) rows

-- both are known, the user is not `none`, and is the group itself or listed by it
abbrev pub is_member : List Row → List ℕ → List ℕ → Bool
is_member rows user group =
    is_known rows user && is_known rows group && not (same_name user none_name)
    && (same_name user group || lists_member rows group user)

-- both are known, the user is not `none`, and is the group's leader, or the group has none and the
-- user is a member
abbrev pub is_leader : List Row → List ℕ → List ℕ → Bool
is_leader rows user group =
    is_known rows user && is_known rows group && not (same_name user none_name)
    && (has_leader rows group user || (has_leader rows group [] && is_member rows user group))
