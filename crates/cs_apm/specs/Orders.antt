-- The order of a trace's micro-operations: for each, which earlier ones it needs.
use Rattle.std.specs.Prelude.{ℕ, Bool, List, length}
use Rattle.cs_sets.specs.Orders.{table}
use Rattle.cs_trace_lines.specs.Versions.{profile_of}
use Rattle.cs_trace_lines.specs.declared.profile.Profile.{Profile}
use Rattle.cs_micro.specs.Micros.{Micros}
use Rattle.cs_apm.specs.Rules as rules

-- what needs what by the rules of the trace's version, on a file system of any profile
abbrev pub needs_by : Micros → Profile → ℕ → ℕ → Bool
needs_by micros profile = rules.needs micros.ops micros.syncs micros.version profile

-- what needs what on a file system of the trace's own profile
abbrev pub needs_of : Micros → ℕ → ℕ → Bool
needs_of micros = needs_by micros (profile_of micros.version)

-- the order of a trace's micro-operations
abbrev pub order_of : Micros → List (List Bool)
order_of micros = table (needs_of micros) (length micros.ops)

-- the order on a file system of any profile
abbrev pub order_by : Micros → Profile → List (List Bool)
order_by micros profile = table (needs_by micros profile) (length micros.ops)
