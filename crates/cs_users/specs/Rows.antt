-- What a line of the users file says.
use Rattle.std.specs.Prelude.{◌≢◌, ℕ, List, [], ◌∷◌, All, AllPairs}
use Rattle.cs_names.specs.Legal.{IsUserName}

-- a user or a group: its id, its name, its leader (empty if it has none) and its members
pub record Row : Type 0 where
  pub id : List ℕ
  pub name : List ℕ
  pub leader : List ℕ
  pub members : List (List ℕ)

-- the user `none`
abbrev pub none_name : List ℕ
none_name = 110 ∷ 111 ∷ 110 ∷ 101 ∷ []

-- the rows have legal user names, all different
pub record AreNamed (rows : List Row) : Type 0 where
  pub legal : All (λ row. IsUserName row.name) rows
  pub distinct : AllPairs (λ row later. row.name ≢ later.name) rows
