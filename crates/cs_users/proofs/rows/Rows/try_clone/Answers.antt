use Rattle.std.proofs.Common.{List, subst, sym, ap, take, ◌∙◌}
use Rattle.std.proofs.lemmas.List.{get_or_read}
use Rattle.cs_users.specs.Members.{is_known}
use Rattle.cs_users.specs.Rows.{Row, AreNamed}
use Rattle.cs_users.proofs.Places.{unknown_before}
use Rattle.cs_users.proofs.rows.Rows.try_clone.Goals as goal

pub with_row-requires : goal.with_row-requires
with_row-requires c =
    let items = c.deref-row-items.result.now in
    let i = c.loop-row.row-index in
    ap (λ (rows : List Row). is_known rows c.in_ok-try_clone.field-0.name) c.loop-row.invariant
    ∙ ap (λ (row : Row). is_known (take i items) row.name) c.in_ok-try_clone.ensures
    ∙ unknown_before items i c.row-item.result (subst AreNamed (sym c.deref-row-items.ensures.value) c.self.invariant.named)
    c.loop-row-test.true (get_or_read items i c.row-item.result c.loop-row-test.true c.row-item.is)
