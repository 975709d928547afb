-- The file or directory at a path at the start, before version 4.
use Rattle.std.specs.Prelude.{ℕ, Bool, List, Option}
use Rattle.cs_start.specs.declared.rights.Rights.{Rights}

pub record StartEntry : Type 0 where
  pub number : ℕ
  pub own : Bool
  pub rights : Rights
  pub content : Option (List ℕ)
