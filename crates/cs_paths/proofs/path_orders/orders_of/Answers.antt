use Rattle.std.proofs.Common.{◌≡◌, ◌+◌, ◌<◌, ℕ, List, Some, IfSome, length, drop, slice_get, slice_index_or, sym, ap, ◌∙◌, subst, arith}
use Rattle.std.proofs.lemmas.List.{length_push, take_at}
use Rattle.cs_apm.specs.Rules.{op_at}
use Rattle.cs_paths.specs.declared.path_order.PathOrder.{PathOrder}
use Rattle.cs_paths.specs.PathOrders.{IsPathOrder, moved_at, moved_directory, positions_of}
use Rattle.cs_paths.proofs.Orders.{move_low, order_here, positions_more, pushed}
use Rattle.cs_paths.proofs.path_orders.orders_of.Goals as goal

pub move_at-requires : goal.move_at-requires
move_at-requires c =
    let ops = c.args.ops.now in
    let tables = c.args.tables.now in
    let i = c.loop-place.place-index in
    let k = slice_index_or c.args.moves.now i 0 in
    let lt : i < length c.args.moves.now = omega arith in
    let there : k < length ops = move_low ops c.args.moves.now c.requires.moves i lt in
    let long : length c.deref_mut.result.now ≡ length tables.directories.items =
    ap length (c.deref_mut.ensures.value ∙ c.loop-place.invariant.at) ∙ (c.requires.inside i).0 in
    record {
      there = there;
      steps = ap length c.deref-in-loop-place-2.ensures.value ∙ c.requires.steps;
      known = subst (λ l. IfSome (moved_directory (op_at ops k)) (λ d. d < l)) (sym long) (c.requires.known k there);
    }

pub loop-place-preserved : goal.loop-place-preserved
loop-place-preserved c =
    let ops = c.args.ops.now in
    let tables = c.args.tables.now in
    let es = tables.entries.items in
    let dirs = length tables.directories.items in
    let at = λ (t : ℕ). positions_of ops tables t in
    let i = c.loop-place.place-index in
    let k = slice_index_or c.args.moves.now i 0 in
    let lt : i < length c.args.moves.now = omega arith in
    let old = c.loop-place.orders.items in
    let inv = c.loop-place.invariant in
    let x = c.in_ok-of.field-0 in
    let new = c.move_at.new.positions in
    let rest = drop (length new) c.loop-place.positions.items in
    let copied : c.in_ok-copy.copy.items ≡ at (length old) =
    c.in_ok-copy.ensures.items ∙ c.deref.ensures.value ∙ inv.at ∙ ap at (sym inv.long) in
    let here : IsPathOrder es dirs (at (length old)) x =
    order_here c.deref-in-loop-place.result.now es dirs c.in_ok-copy.copy.items (at (length old)) x c.deref-in-loop-place.ensures.value
    copied (c.requires.inside (length old)).0 c.in_ok-of.ensures in
    let moved : new ≡ at (i + 1) =
    c.move_at.ensures
    ∙ (λ j. moved_at ops (c.deref-in-loop-place-2.ensures.value j) ((c.deref_mut.ensures.value ∙ inv.at) j) k)
    ∙ positions_more ops c.args.moves.now c.requires.moves i lt tables in
    let long : length new ≡ c.loop-place.positions.len =
    ap length moved ∙ (c.requires.inside (i + 1)).0 ∙ sym (c.requires.inside i).0 ∙ ap length (sym inv.at)
    ∙ sym c.loop-place.positions.ok.0 in
    record {
      long = ap length c.in_ok-push.ensures.items ∙ length_push old x ∙ ap (λ n. n + 1) inv.long;
      at = take_at new rest c.loop-place.positions.len long ∙ moved;
      each =
          subst (λ (os : List PathOrder). (t : ℕ) (o : PathOrder) → slice_get os t ≡ Some o → IsPathOrder es dirs (at t) o)
          (sym {A = List PathOrder} c.in_ok-push.ensures.items)
          (pushed (λ t o. IsPathOrder es dirs (at t) o) old x inv.each here);
    }

pub returns-clause-each : goal.returns-clause-each
returns-clause-each c =
    let tables = c.args.tables.now in
    let es = tables.entries.items in
    let dirs = length tables.directories.items in
    let at = λ (t : ℕ). positions_of c.args.ops.now tables t in
    let old = c.loop-place.orders.items in
    let inv = c.loop-place.invariant in
    let x = c.in_ok-of-2.field-0 in
    let here : IsPathOrder es dirs (at (length old)) x =
    order_here c.deref-2.result.now es dirs c.loop-place.positions.items (at (length old)) x c.deref-2.ensures.value
    (inv.at ∙ ap at (sym inv.long)) (c.requires.inside (length old)).0 c.in_ok-of-2.ensures in
    subst (λ (os : List PathOrder). (t : ℕ) (o : PathOrder) → slice_get os t ≡ Some o → IsPathOrder es dirs (at t) o)
    (sym {A = List PathOrder} c.in_ok-push-2.ensures.items)
    (pushed (λ t o. IsPathOrder es dirs (at t) o) old x inv.each here)
