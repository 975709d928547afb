use Rattle.std.proofs.Common.{◌≡◌, ◌<◌, ◌∙◌, List, ap, sym, subst, length}
use Rattle.cs_apm.specs.Slots.{Slot}
use Rattle.cs_paths.specs.Marks.{mark_at, numbers_that_pass}
use Rattle.cs_paths.specs.PathOrders.{slots_by_path}
use Rattle.cs_state.specs.Shares.{is_in_every_state}
use Rattle.cs_state.proofs.Gathering.{ids_of_order}
use Rattle.cs_state.proofs.kept_ids.KeptIds.of.Goals as goal

pub returns : goal.returns
returns c =
    let slots : c.in_ok-slots.slots.items ≡ slots_by_path c.args.places.now c.args.tables.now.slots.items =
    c.in_ok-slots.ensures ∙ ap (slots_by_path c.args.places.now) c.deref.ensures.value in
    let m2 = c.deref-2.ensures.value ∙ c.in_ok-marks.ensures in
    let s3 = c.deref-3.ensures.value ∙ slots in
    let m4 = c.deref-4.ensures.value ∙ c.in_ok-marks.ensures in
    let s5 = c.deref-5.ensures.value ∙ slots in
    let m6 = c.deref-6.ensures.value ∙ c.in_ok-marks.ensures in
    ids_of_order c.args.tables.now c.args.marks.now c.args.places.now c.requires.shared c.requires.places _
    (c.in_ok-kept.ensures ∙ (λ i. numbers_that_pass (is_in_every_state (m2 i) (s3 i)) (length (s3 i))))
    (c.in_ok-touched.ensures ∙ (λ i. numbers_that_pass (mark_at (m6 i)) (length (m6 i))))
    (c.in_ok-kept_below.ensures.long ∙ ap length s5)
    (λ id low. c.in_ok-kept_below.ensures.each id (subst (λ (ss : List Slot). id < length ss) (sym s5) low)
    ∙ (λ i. length (numbers_that_pass (is_in_every_state (m4 i) (s5 i)) id)))
