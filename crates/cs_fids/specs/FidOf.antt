-- What contracts see of a fid.
use Rattle.std.specs.Prelude.{ℕ, List}

-- the places of its run and of its pass at the port, the number of its file, the bytes of its
-- user's name, and its state
pub record FidOf (S : Type 0) : Type 0 where
  pub run : ℕ
  pub pass : ℕ
  pub number : ℕ
  pub user : List ℕ
  pub state : S
