use Rattle.std.proofs.Common.{length}
use Rattle.cs_sets.specs.Bits.{has_place}
use Rattle.cs_sets.specs.Rows.{bit_in}
use Rattle.cs_sets.proofs.Adding.{last_empty, step_follows, step_set}
use Rattle.cs_sets.proofs.next.next_set.Goals as goal

pub returns-clause-follows : goal.returns-clause-follows
returns-clause-follows c =
    step_follows (bit_in c.args.rows.now) c.requires.backward (length c.args.rows.now) c.requires.few c.args.members.now
    c.add_last.new.members
    c.requires.set c.add_last.result c.add_last.ensures

pub returns-clause-set : goal.returns-clause-set
returns-clause-set c =
    step_set (bit_in c.args.rows.now) c.requires.backward (length c.args.rows.now) c.args.members.now c.add_last.new.members
    c.requires.set c.add_last.result c.add_last.ensures

pub returns-clause-last : goal.returns-clause-last
returns-clause-last c =
    last_empty (bit_in c.args.rows.now) (length c.args.rows.now) (has_place c.args.members.now) c.add_last.new.members c.add_last.result
    c.add_last.ensures
