use Rattle.std.proofs.Common.{ap, ◌∙◌}
use Rattle.cs_entries.specs.Directories.{table_by}
use Rattle.cs_entries.proofs.Tables.{table_empty}
use Rattle.cs_entries.proofs.table.Directories.new.Goals as goal

pub returns : goal.returns
returns c = ap table_by c.new.ensures.items ∙ table_empty _ _
