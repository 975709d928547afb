-- What is known of the files and directories of a trace by their numbers.
use Rattle.std.specs.Prelude.{◌≡◌, List, length}
use Rattle.cs_trace.specs.Traces.{Trace}
use Rattle.cs_micro.specs.declared.micro_op.MicroOp.{MicroOp}
use Rattle.cs_apm.specs.Atlases.{AreChanged, AreMakings, AreStarts}
use Rattle.cs_apm.specs.States.{directories_of, owners_of}
use Rattle.cs_apm.specs.declared.tables.Tables.{Tables}

pub record AreFiles (t : Trace) (ops : List MicroOp) (tables : Tables) : Type 0 where
  pub owners : tables.owners.items ≡ owners_of t ops
  pub directories : tables.directories.items ≡ directories_of t ops
  pub starts : AreStarts t tables.starts.items
  pub makings : AreMakings ops tables.makings.items
  pub changed : AreChanged ops (length (owners_of t ops)) tables.changed.items
