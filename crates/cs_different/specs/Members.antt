-- Of the sets that a crash may leave, those that a file system of another profile may leave too.
use Rattle.std.specs.Prelude.{◌+◌, ◌||◌, not, ℕ, Bool, List, [], length}
use Rattle.std.specs.List.{All, AllPairs, Contains, filter, list_all, range_with_len}
use Rattle.cs_apm.specs.Orders.{order_by}
use Rattle.cs_apm.specs.Profiles.{MayBeLeft}
use Rattle.cs_apm.specs.Rules.{is_first_half, op_at}
use Rattle.cs_micro.specs.declared.micro_op.MicroOp.{MicroOp}
use Rattle.cs_plan.specs.Scenes.{Scene, micros_of}
use Rattle.cs_sets.specs.Every.{IsBefore, every}
use Rattle.cs_sets.specs.Orders.{needs_in}
use Rattle.cs_sets.specs.Sets.{is_member}
use Rattle.cs_trace_lines.specs.Versions.{profile_of}
use Rattle.cs_trace_lines.specs.declared.profile.Profile.{Profile}
use Rattle.cs_trace_lines.specs.declared.profile.Profile.TheVariants.{Blocks, Ordered, Journal}
use Rattle.cs_different.specs.Sets.{IsLeavable}

-- a crash may leave the set, and so may a file system of the profile
pub record IsMember (s : Scene) (profile : Profile) (places : List ℕ) : Type 0 where
  pub leavable : IsLeavable s places
  pub left : MayBeLeft (micros_of s) profile places

-- these are all sets of a kind, ascending
pub record AreAll (Is : List ℕ → Type 0) (sets : List (List ℕ)) : Type 0 where
  pub are : All Is sets
  pub each : (places : List ℕ) → Is places → Contains sets places
  pub ascending : AllPairs IsBefore sets

-- ---- by an order

-- of two profiles, the stricter one
abbrev pub stricter : Profile → Profile → Profile
stricter Blocks other = other
stricter Ordered Blocks = Ordered
stricter Ordered Ordered = Ordered
stricter Ordered Journal = Journal
stricter Journal other = Journal

-- the order by the stricter of this profile and the trace's own
abbrev pub order_under : Scene → Profile → List (List Bool)
order_under s profile =
    order_by (micros_of s) (stricter profile (profile_of (micros_of s).version))

-- the first halves of renames, unless a file system of the profile may leave one alone
abbrev pub firsts_under : List MicroOp → Profile → List ℕ
firsts_under ops Blocks = []
firsts_under ops Ordered = filter (λ i. is_first_half (op_at ops i)) (range_with_len 0 (length ops))
firsts_under ops Journal = filter (λ i. is_first_half (op_at ops i)) (range_with_len 0 (length ops))

-- the set has the second half of each of these renames of which it has the first
abbrev pub has_seconds : List ℕ → List ℕ → Bool
has_seconds firsts places =
    list_all (λ i. not (is_member places i) || is_member places (i + 1)) firsts

-- the sets that an order allows, and that have the second half of each of these renames of which
-- they have the first
abbrev pub sets_told : List (List Bool) → List ℕ → List (List ℕ)
sets_told order firsts = filter (has_seconds firsts) (every (needs_in order) (length order))

-- all sets that a crash and a file system of the profile may leave
abbrev pub members_under : Scene → Profile → List (List ℕ)
members_under s profile =
    sets_told (order_under s profile) (firsts_under (micros_of s).ops profile)
