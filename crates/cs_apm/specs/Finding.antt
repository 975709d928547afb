-- What is computed once for the rows of an order; for private clauses.
use Rattle.std.specs.Prelude.{◌≡◌, ℕ, ◌||◌, ◌==◌, Bool, true, false, List, [], Option, None, Some}
use Rattle.std.specs.Prelude.{length, nat_le, nat_lt, slice_get}
use Rattle.cs_micro.specs.declared.micro_op.MicroOp.{MicroOp}
use Rattle.cs_micro.specs.declared.sync_point.SyncPoint.{SyncPoint}
use Rattle.cs_apm.specs.declared.found.ParentMakings.{ParentMakings}
use Rattle.cs_trace_lines.specs.declared.profile.Profile.{Profile}
use Rattle.cs_trace_lines.specs.declared.profile.Profile.TheVariants as profiles
use Rattle.cs_apm.specs.Rules.{is_journaled, is_synced, log_forced_at, op_at}

-- the place that was found
abbrev pub is_at : Option ℕ → ℕ → Bool
is_at None i = false
is_at (Some k) i = k == i

-- a place was found, and is at j or before it
abbrev pub is_by : Option ℕ → ℕ → Bool
is_by None j = false
is_by (Some at) j = nat_le at j

-- a place is before the one that was found; true if none was found
abbrev pub is_before : ℕ → Option ℕ → Bool
is_before place None = true
is_before place (Some at) = nat_lt place at

abbrev pub is_parent_making : ParentMakings → ℕ → Bool
is_parent_making parents i = is_at parents.first i || is_at parents.second i

-- for each of the first n micro-operations the place of the first sync after it that covers it
pub record AreSynced (ops : List MicroOp) (syncs : List SyncPoint) (n : ℕ)
    (found : List (Option ℕ)) : Type 0 where
  pub long : length found ≡ n
  pub each : (i : ℕ) (first : Option ℕ) → slice_get found i ≡ Some first → (j : ℕ)
      → is_by first j ≡ is_synced syncs i j (op_at ops i)

-- the places at which the log is forced; none without a journal
abbrev pub logged_at : Profile → List MicroOp → List SyncPoint → List ℕ
logged_at profiles.Blocks ops syncs = []
logged_at profiles.Ordered ops syncs = []
logged_at profiles.Journal ops syncs = log_forced_at ops 0 syncs

-- for each of the first n micro-operations the first place after it at which the log is forced, if
-- it touches an entry
pub record AreLogged (ops : List MicroOp) (syncs : List SyncPoint) (profile : Profile) (n : ℕ)
    (found : List (Option ℕ)) : Type 0 where
  pub long : length found ≡ n
  pub each : (i : ℕ) (first : Option ℕ) → slice_get found i ≡ Some first → (j : ℕ)
      → is_by first j ≡ is_journaled profile ops syncs i j
