-- What is kept of each line of a users file.
use Rattle.std.specs.Prelude.{◌≡◌, ℕ, ◌<◌, IfSome, List, length, slice_index_or}
use Rattle.cs_users.specs.declared.groups.Group.{Group}
use Rattle.cs_users.specs.Rows.{Row, AreNamed}
use Rattle.cs_users.specs.Groups.{leader_of, members_of}
use Rattle.cs_users.specs.Marks.{AreMarks}

-- the places of the leader and of the members of the group at that place, and, if there are marks,
-- a mark at each member
pub record IsGroup (rows : List Row) (place : ℕ) (group : Group) : Type 0 where
  pub leader : group.leader ≡ leader_of rows place
  pub members : group.members.items ≡ members_of rows place
  pub marks : IfSome group.marks
      (λ marks. AreMarks (length rows) (members_of rows place) marks.words.items)

-- these of each of the first n rows
pub record AreGroups (rows : List Row) (n : ℕ) (groups : List Group) : Type 0 where
  pub long : length groups ≡ n
  pub each : (place : ℕ) (d : Group) → place < n
      → IsGroup rows place (slice_index_or groups place d)

-- rows of names of their own, and what is kept of each
pub record AreKept (rows : List Row) (groups : List Group) : Type 0 where
  pub named : AreNamed rows
  pub kept : AreGroups rows (length rows) groups
