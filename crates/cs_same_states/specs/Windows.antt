-- Bytes of a file from an offset on, with its size.
use Rattle.std.specs.Prelude.{◌≡◌, ℕ, List}
use Rattle.cs_apm.specs.States.{Content}
use Rattle.cs_state.specs.Windows.{IsPart}

-- the file has this size, and these bytes from the offset on
pub record IsWindow (offset : ℕ) (f : Content) (end : ℕ) (bytes : List ℕ) : Type 0 where
  pub size : end ≡ f.size
  pub part : IsPart offset f bytes
