use Rattle.std.proofs.Common.{ap, ◌∙◌, length}
use Rattle.cs_sets.specs.Following.{every_from}
use Rattle.cs_sets.specs.Orders.{needs_in}
use Rattle.cs_sets.specs.Laws.Chosen.{none_read}
use Rattle.cs_sets.specs.Laws.Following.{from_empty}
use Rattle.cs_sets.proofs.sets.Sets.of.Goals as goal

pub returns : goal.returns
returns c =
    let needs = needs_in c.args.order.now in
    let n = length c.args.order.now in
    ap (every_from needs n) (none_read c.empty.result c.empty.ensures) ∙ from_empty needs c.len.ensures.backward n
