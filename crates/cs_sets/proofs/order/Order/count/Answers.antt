use Rattle.std.proofs.Common.{length, ap, ◌∙◌, min}
use Rattle.std.proofs.lemmas.Result.{IfErr-weaker, IfOk-weaker}
use Rattle.cs_sets.specs.declared.count.TheConstants.{FUTURES}
use Rattle.cs_sets.specs.Chains.{by_chain}
use Rattle.cs_sets.specs.Every.{every}
use Rattle.cs_sets.specs.Orders.{needs_in}
use Rattle.cs_sets.proofs.Crowding.{many_futures}
use Rattle.cs_sets.proofs.order.Order.count.Goals as goal

pub returns-clause-count : goal.returns-clause-count
returns-clause-count c =
    let needs = needs_in c.args.self.now in
    let rows = c.needed.result.now in
    IfOk-weaker c.count_sets.result _ _
    (λ count h. h ∙ ap (λ v. min v c.args.most)
    (ap (λ reach. length (every reach (length rows))) c.needed.ensures.chains
    ∙ ap (λ n. length (every (by_chain needs) n)) c.needed.ensures.long
    ∙ ap length c.needed.ensures.sets))
    c.count_sets.ensures.count

pub returns-clause-fault : goal.returns-clause-fault
returns-clause-fault c =
    IfErr-weaker c.count_sets.result _ _
    (λ fault h e. many_futures (needs_in c.args.self.now) c.needed.ensures.backward (length c.args.self.now) FUTURES _ _
    c.needed.ensures.chains c.needed.ensures.long (h e))
    c.count_sets.ensures.fault
