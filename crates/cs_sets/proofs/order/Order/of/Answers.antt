use Rattle.std.proofs.Common.{length, subst, sym, ap, ◌∙◌}
use Rattle.cs_sets.specs.Rows.{AreReach, IsOrder, bit_in}
use Rattle.cs_sets.proofs.Entries.{length_table}
use Rattle.cs_sets.proofs.Ordering.{needs_same}
use Rattle.cs_sets.proofs.order.Order.of.Goals as goal

pub returns-clause-long : goal.returns-clause-long
returns-clause-long c = length_table (bit_in c.args.rows.items) (length c.args.rows.items)

pub returns-clause-needs : goal.returns-clause-needs
returns-clause-needs c =
    let rows = c.args.rows.items in
    let reach = c.in_ok-reach.reach.items in
    let same = c.deref.ensures.value in
    let is : IsOrder rows reach = record {
      few = c.requires.few;
      same = c.in_ok-reach.ensures.long ∙ ap length same;
      backward = c.requires.backward;
      reached = subst (λ v. AreReach v reach (length v)) same c.in_ok-reach.ensures.reached;
    } in
    needs_same rows reach is
