use Rattle.std.proofs.Common.{rules, tests}
use Rattle.std.proofs.lemmas.Iterator.{items_from_collect}
use Rattle.std.proofs.lemmas.Iterator.Consumers.{YieldsList-from_filter_map, YieldsList-from_first}
use Rattle.cs_names.specs.PiecesLeft.{pieces_left}
use Rattle.cs_users.specs.Groups.{somebody_at}
use Rattle.cs_users.proofs.groups.listed_members.Goals as goal

pub returns : goal.returns
returns c =
    items_from_collect _ c.collect.ensures.ran
    (YieldsList-from_filter_map _ (somebody_at c.args.rows.now)
    (YieldsList-from_first (λ x. x.now) pieces_left c.args.row.now.members (cc (c.members.ensures, c.filter_map.ensures.source)))
    c.filter_map.ensures.closure (λ x r q k. search (rules, tests)))
