-- How a run with a pass is stored.
use Rattle.std.specs.Coded.{Coded, coded×}
use Rattle.cs_journal.specs.contracts.pass.Pass as pass
use Rattle.cs_journal.specs.Runs.{PassOf, RunOf, run_code}

abbrev pub side_code : Coded (RunOf × PassOf)
side_code = coded× run_code pass.the_row.coded
