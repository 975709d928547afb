-- The fields of a line that is read.
use Rattle.cs_names.specs.Pieces.{pieces}
use Rattle.cs_users.specs.Rows.{Row}
use Rattle.cs_users.specs.declared.row.Fields.{Fields}

-- the row that the fields spell
abbrev pub row_of : Fields → Row
row_of fields = record {
  id = fields.id.now;
  name = fields.name.now;
  leader = fields.leader.now;
  members = pieces 44 fields.members.now;
}
