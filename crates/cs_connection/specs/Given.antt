-- The passes of the connections that ended, by the keys of the runs that gave them.
use Rattle.std.specs.Prelude.{◌≡◌, ◌++◌, Bool, false, List, [], ◌∷◌, cond, map, slice_get}
use Rattle.std.specs.Prelude.{unwrap_or}
use Rattle.std.specs.List.{filter}
use Rattle.std.specs.Map.{lookup}
use Rattle.std.specs.Option.{option_map_or}
use Rattle.cs_journal.specs.Runs.{PassOf}
use Rattle.cs_registry.specs.Keys.{Key, same_key}
use Rattle.cs_connection.specs.declared.kept.GivenPass.{GivenPass}
use Rattle.cs_connection.specs.Kept.{FoundRuns}

-- for each key the passes of its run
abbrev pub Given : Type 0
Given = List (Key × List PassOf)

-- the passes of the run of a key, in the order in which they came
abbrev pub passes_of : Given → Key → List PassOf
passes_of given key = unwrap_or (lookup (same_key key) given) []

-- a pass of the run of a key comes last among those of that run, and no other changes
abbrev pub KeepsPass : Given → Key → PassOf → Given → Type 0
KeepsPass old own pass new =
    (key : Key) → passes_of new key ≡ passes_of old key ++ cond (same_key own key) (pass ∷ []) []

-- none changes
abbrev pub KeepsNone : Given → Given → Type 0
KeepsNone old new = (key : Key) → passes_of new key ≡ passes_of old key

-- whether the run of a key, among those that a connection found, gave the pass
abbrev pub is_given_by : List Key → Key → GivenPass → Bool
is_given_by runs key given =
    option_map_or (λ own. same_key own key) (slice_get runs given.run) false

-- of a connection's passes those of the run of a key, in the order in which they were given
abbrev pub given_by_run : FoundRuns → Key → List PassOf
given_by_run kept key = map (λ given. given.pass) (filter (is_given_by kept.runs key) kept.passes)

-- the passes that a connection kept come after those of the same run
abbrev pub KeepsPasses : Given → FoundRuns → Given → Type 0
KeepsPasses old kept new =
    (key : Key) → passes_of new key ≡ passes_of old key ++ given_by_run kept key

-- likewise for the first of them, and the rest is dropped
pub record KeepsFront (old : Given) (kept : FoundRuns) (new : Given) : Type 0 where
  pub front : List GivenPass
  pub rest : List GivenPass
  pub parts : kept.passes ≡ front ++ rest
  pub keeps : KeepsPasses old (record { runs = kept.runs; passes = front }) new
