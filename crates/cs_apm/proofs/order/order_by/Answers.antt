use Rattle.std.proofs.Common.{◌≡◌, ◌≤◌, IfOk, List, Bool, ap, length, subst, sym, ◌∙◌}
use Rattle.cs_names.specs.declared.limits.TheConstants.{MICRO_OPERATIONS}
use Rattle.cs_sets.specs.Orders.{table}
use Rattle.cs_sets.specs.Rows.{bit_in}
use Rattle.cs_apm.specs.Rules.{needs}
use Rattle.cs_apm.proofs.FromRules.{row_says, rows_backward}
use Rattle.cs_apm.proofs.Entries.{table_same}
use Rattle.cs_apm.proofs.order.order_by.Goals as goal

pub of-requires-clause-few : goal.of-requires-clause-few
of-requires-clause-few c = subst (λ n. n ≤ MICRO_OPERATIONS) (sym c.in_ok-rows.ensures.long) c.ops.ensures.few

pub of-requires-clause-backward : goal.of-requires-clause-backward
of-requires-clause-backward c =
    rows_backward c.ops.result.now c.syncs.result.now c.version.result c.args.profile c.in_ok-rows.rows.items c.in_ok-rows.ensures

pub returns : goal.returns
returns c =
    let rows = c.in_ok-rows.rows.items in
    let need = needs c.ops.result.now c.syncs.result.now c.version.result c.args.profile in
    let says = row_says need (length c.ops.result.now) rows c.in_ok-rows.ensures in
    let same =
    ap (table (bit_in rows)) c.in_ok-rows.ensures.long
    ∙ table_same (bit_in rows) need (length c.ops.result.now) says
    ∙ (λ w. table (needs (c.ops.ensures.value w) (c.syncs.ensures w) (c.version.ensures w) c.args.profile)
    (length (c.ops.ensures.value w))) in
    subst (λ (v : List (List Bool)). IfOk c.of.result (λ order. order ≡ v)) same c.of.ensures.value
