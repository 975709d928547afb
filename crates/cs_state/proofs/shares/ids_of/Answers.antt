use Rattle.std.proofs.Common.{◌≡◌, ◌+◌, ℕ, List, Some, refl, sym, ap, ◌∙◌, subst, arith, length, slice_get}
use Rattle.std.proofs.lemmas.List.{length_push}
use Rattle.std.proofs.lemmas.Option.{slice_get_read}
use Rattle.cs_paths.proofs.Orders.{pushed}
use Rattle.cs_paths.specs.PathOrders.{ArePlaces}
use Rattle.cs_paths.specs.declared.path_order.PathOrder.{PathOrder}
use Rattle.cs_state.specs.Shares.{AreIds}
use Rattle.cs_state.specs.declared.kept_ids.KeptIds.{KeptIds}
use Rattle.cs_state.proofs.shares.ids_of.Goals as goal

pub of-requires-clause-places : goal.of-requires-clause-places
of-requires-clause-places c =
    let orders = c.args.orders.now in
    let i = c.loop-order.order-index in
    let order = c.order-item.result in
    subst (ArePlaces (length c.args.tables.now.entries.items)) (sym c.deref.ensures.value)
    (c.requires.places i order (slice_get_read orders (length orders) i order refl c.loop-order-test.true c.order-item.is))

pub loop-order-preserved : goal.loop-order-preserved
loop-order-preserved c =
    let tables = c.args.tables.now in
    let orders = c.args.orders.now in
    let i = c.loop-order.order-index in
    let order = c.order-item.result in
    let inv = c.loop-order.invariant in
    let old = c.loop-order.ids.items in
    let x = c.in_ok-of.field-0 in
    let at : slice_get orders i ≡ Some order =
    slice_get_read orders (length orders) i order refl c.loop-order-test.true c.order-item.is in
    let here = λ (o : PathOrder) (is : slice_get orders (length old) ≡ Some o).
    (let both : Some order ≡ Some o = sym at ∙ ap (slice_get orders) (sym inv.long) ∙ is in
    let same : order ≡ o = cc in
    subst (λ ps. AreIds tables ps x) (c.deref.ensures.value ∙ ap (λ (p : PathOrder). p.places.items) same) c.in_ok-of.ensures) in
    record {
      long = ap length c.in_ok-push.ensures.items ∙ length_push old x ∙ ap (λ n. n + 1) inv.long;
      each =
          subst (λ (ks : List KeptIds). (t : ℕ) (kept : KeptIds) → slice_get ks t ≡ Some kept → (o : PathOrder)
          → slice_get orders t ≡ Some o → AreIds tables o.places.items kept)
          (sym {A = List KeptIds} c.in_ok-push.ensures.items)
          (pushed (λ t kept. (o : PathOrder) → slice_get orders t ≡ Some o → AreIds tables o.places.items kept) old x inv.each here);
    }

pub returns : goal.returns
returns c =
    let inv = c.loop-order.invariant in
    let end : c.loop-order.order-index ≡ length c.args.orders.now = omega arith in
    record {
      long = inv.long ∙ end;
      each = λ t o kept at is. inv.each t kept is o at;
    }
