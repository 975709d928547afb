-- A sync point before version 4.
use Rattle.std.specs.Prelude.{ℕ}
use Rattle.cs_trace.specs.Earlier.Covers.{Covers}

pub record SyncPoint : Type 0 where
  pub at : ℕ
  pub covers : Covers
