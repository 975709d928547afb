-- On which file systems a set of micro-operations may be left.
use Rattle.std.specs.Prelude.{◌≡◌, ◌+◌, ℕ, Bool, true, List, [], ◌∷◌, ◌++◌, length, if◌then◌else◌}
use Rattle.std.specs.List.{Contains}
use Rattle.cs_trace_lines.specs.Versions.{is_fourth}
use Rattle.cs_trace_lines.specs.declared.profile.Profile.{Profile}
use Rattle.cs_trace_lines.specs.declared.profile.Profile.TheVariants.{Blocks, Ordered, Journal}
use Rattle.cs_trace_lines.specs.declared.version.Version.{Version}
use Rattle.cs_micro.specs.Micros.{Micros}
use Rattle.cs_micro.specs.declared.micro_op.MicroOp.{MicroOp}
use Rattle.cs_apm.specs.Orders.{needs_by}
use Rattle.cs_apm.specs.Rules.{is_first_half, op_at}
use Rattle.cs_sets.specs.Sets.{IsAllowed}

-- with the first half of a rename the set has the second
abbrev pub HasBothHalves : List MicroOp → List ℕ → Type 0
HasBothHalves ops places =
    (i : ℕ) → Contains places i → is_first_half (op_at ops i) ≡ true → Contains places (i + 1)

-- only a file system that keeps no order may leave a half alone
abbrev pub MayHaveHalves : Profile → List MicroOp → List ℕ → Type 0
MayHaveHalves Blocks ops places = Unit {0}
MayHaveHalves Ordered ops places = HasBothHalves ops places
MayHaveHalves Journal ops places = HasBothHalves ops places

-- a file system of the profile may leave the set
pub record MayBeLeft (micros : Micros) (profile : Profile) (places : List ℕ) : Type 0 where
  pub allowed : IsAllowed (needs_by micros profile) (length micros.ops) places
  pub halves : MayHaveHalves profile micros.ops places

-- the profiles that a trace of the version is asked about
abbrev pub profiles_in : Version → List Profile
profiles_in version =
    Blocks ∷ Ordered ∷ (if is_fourth version then Journal ∷ [] else [])
