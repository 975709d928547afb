use Rattle.std.specs.BTreeMap.{get}
use Rattle.std.specs.Ordering.{nat_cmp}
use Rattle.cs_state.specs.Owners.{directory_places}
use Rattle.cs_state.proofs.Rows.{rows_keep, rows_right}
use Rattle.cs_state.proofs.owner_steps.add_directory_row.Goals as goal

pub returns-clause-each : goal.returns-clause-each
returns-clause-each c =
    rows_right (get nat_cmp c.args.rows.now) (get nat_cmp c.insert.new.self) c.args.directory c.in_ok-row.row
    c.in_ok-insert.ensures.updates.0
    (directory_places c.args.ops.now) c.in_ok-row.ensures

pub returns-clause-keeps : goal.returns-clause-keeps
returns-clause-keeps c =
    rows_keep (get nat_cmp c.args.rows.now) (get nat_cmp c.insert.new.self) c.args.directory c.in_ok-row.row
    c.in_ok-insert.ensures.updates.0
