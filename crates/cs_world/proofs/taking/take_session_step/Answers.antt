use Rattle.cs_session.proofs.Marking.{table_taken}
use Rattle.cs_world.proofs.taking.take_session_step.Goals as goal

pub returns-in-Find : goal.returns-in-Find
returns-in-Find g c = rw c.in-Find.is (c.find_step.ensures.takes c.args.now)

pub returns-in-Table : goal.returns-in-Table
returns-in-Table g c = rw c.in-Table.is (table_taken g.P.Port.gives c.args.now _ _ _ c.in-Table.change _ c.table_step.ensures.value)
