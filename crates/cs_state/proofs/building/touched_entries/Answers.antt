use Rattle.std.proofs.Common.{◌++◌, ◌∙◌, ap, length}
use Rattle.cs_state.specs.Merging.{own_from, own_one}
use Rattle.cs_state.specs.Numbers.{kept_at}
use Rattle.cs_paths.specs.PathOrders.{slots_by_path}
use Rattle.cs_state.proofs.Owning.{goes_on, one_longer}
use Rattle.cs_state.proofs.building.touched_entries.Goals as goal

pub loop-id-preserved : goal.loop-id-preserved
loop-id-preserved c =
    let counts = c.args.kept_below.now in
    let touched = c.args.touched.now in
    let slots = slots_by_path c.args.places.now c.args.slots.now in
    let k = c.loop-id.id-index in
    let old = c.loop-id.own.items in
    let id = kept_at touched k in
    let pushed = c.in_ok-push_own.ensures
    ∙ ap (λ s. old ++ own_one id (kept_at counts id) s (length old)) c.slot_of_id-slot.ensures in
    record {
      so_far = goes_on counts touched slots k c.loop-id-test.true old c.push_own.new.own.items
          (own_from counts touched slots 0) pushed c.loop-id.invariant.so_far;
      few = one_longer counts touched slots k c.loop-id-test.true old c.push_own.new.own.items
          (own_from counts touched slots 0) pushed c.loop-id.invariant.few;
    }
