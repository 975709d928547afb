use Rattle.std.proofs.Common.{rules, tests, sym, take, ◌∙◌}
use Rattle.std.proofs.lemmas.Iterator.{YieldsList-from_take}
use Rattle.std.proofs.lemmas.Iterator.Consumers.{YieldsList-from_first}
use Rattle.std.proofs.lemmas.Iterator.Search.{any_from_yields_List}
use Rattle.cs_names.specs.PiecesLeft.{pieces_left}
use Rattle.cs_names.specs.Pieces.{pieces}
use Rattle.cs_users.specs.Reading.{names}
use Rattle.cs_users.proofs.Lines.{is_known-rows_in}
use Rattle.cs_users.proofs.reading.is_named_before.Goals as goal

pub returns : goal.returns
returns c =
    any_from_yields_List (names c.args.name.now) c.any.new.self _ c.any.result c.any.ensures.ran
    (YieldsList-from_take {s = c.take.result} c.args.before
    (YieldsList-from_first (λ x. x.now) pieces_left _ (cc (c.of.ensures, c.take.ensures.source))) (cc (c.take.ensures.count)))
    (λ x b q k. search (rules, tests))
    ∙ sym (is_known-rows_in (take c.args.before (pieces 10 c.args.text.now)) c.args.name.now)
