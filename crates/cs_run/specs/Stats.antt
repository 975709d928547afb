-- The fields of a stat.
use Rattle.cs_wire.specs.Fields.{Value}
use Rattle.cs_wire.specs.Messages.{stat_shape}

-- what is in a stat
abbrev pub StatFields : Type 0
StatFields = Value stat_shape
