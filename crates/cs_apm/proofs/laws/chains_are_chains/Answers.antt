use Rattle.std.proofs.Common.{◌+◌}
use Rattle.cs_sets.specs.Chains.{by_chain}
use Rattle.cs_sets.specs.Laws.Chains.{chain_found, found_chain}
use Rattle.cs_sets.specs.Orders.{needs_in}
use Rattle.cs_apm.proofs.laws.chains_are_chains.Goals as goal

pub returns : goal.returns
unfolding by_chain
returns c =
    λ i j. (
      (λ is. found_chain (needs_in c.args.order.now) (j + 1) i j is),
      (λ w. chain_found (needs_in c.args.order.now) c.len.ensures.backward w.0 i j w.1),
    )
