-- What a connection keeps over runs that threads share.
use Rattle.std.specs.Prelude.{ℕ, ◌<◌, List, [], ◌∷◌, ◌++◌, All, length, slice_get, slice_set}
use Rattle.std.specs.Prelude.{Option, None}
use Rattle.std.specs.Option.{option_map_or}
use Rattle.cs_journal.specs.Runs.{PassOf}
use Rattle.cs_registry.specs.Keys.{Key}
use Rattle.cs_connection.specs.declared.kept.GivenPass.{GivenPass}

-- The keys of the runs that a connection found, and the passes that it was given, each in the order
-- in which they came. A pass has the place of its run.
pub record FoundRuns : Type 0 where
  pub runs : List Key
  pub passes : List GivenPass

-- no run was found
abbrev pub no_runs : FoundRuns
no_runs = record { runs = []; passes = [] }

-- each pass is of a run that was found
abbrev pub AreInside : List Key → List GivenPass → Type 0
AreInside runs passes = All (λ given. given.run < length runs) passes

-- with a run more, the last
abbrev pub with_run : FoundRuns → Key → FoundRuns
with_run kept key = record { runs = kept.runs ++ key ∷ []; passes = kept.passes }

abbrev pub given_by : ℕ → PassOf → GivenPass
given_by place pass = record { run = place; pass = pass }

-- with a pass more, the last
abbrev pub kept_with_pass : FoundRuns → ℕ → PassOf → FoundRuns
kept_with_pass kept place pass =
    record { runs = kept.runs; passes = kept.passes ++ given_by place pass ∷ [] }

-- with another pass at a place
abbrev pub put_pass : FoundRuns → ℕ → ℕ → PassOf → FoundRuns
put_pass kept pass_place place pass =
    record { runs = kept.runs; passes = slice_set kept.passes pass_place (given_by place pass) }

-- the key of the run that gave the pass at a place
abbrev pub key_at : FoundRuns → ℕ → Option Key
key_at kept place =
    option_map_or (λ given. slice_get kept.runs given.run) (slice_get kept.passes place) None
