use Rattle.std.proofs.lemmas.List.{get_or_read}
use Rattle.std.specs.Prelude.{◌/◌}
use Rattle.cs_users.proofs.Marking.{is_marked-set}
use Rattle.cs_users.proofs.marks.mark.Goals as goal

pub returns-clause-marked : goal.returns-clause-marked
returns-clause-marked c = λ other.
    is_marked-set c.args.words.now.items c.args.place c.index_mut.result.now other c.requires
    (get_or_read c.args.words.now.items (c.args.place / 64) c.index_mut.result.now c.requires c.index_mut.ensures.value 0)
