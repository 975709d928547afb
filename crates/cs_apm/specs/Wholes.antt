-- A trace with its micro-operations and its tables.
use Rattle.std.specs.Prelude.{◌≡◌}
use Rattle.cs_trace.specs.Traces.{Trace}
use Rattle.cs_micro.specs.Micros.{Micros, micros_in}
use Rattle.cs_apm.specs.Atlases.{IsAtlas, atlas_in}
use Rattle.cs_apm.specs.declared.tables.Tables.{Tables}

-- the micro-operations and the tables are the trace's
pub record IsWhole (t : Trace) (m : Micros) (tables : Tables) : Type 0 where
  pub broken : m ≡ micros_in t
  pub atlas : IsAtlas t m (atlas_in tables)
