use Rattle.std.proofs.Common.{◌≡◌, ◌<◌, ◌+◌, ◌^◌, ℕ, List, Some, sym, ◌∙◌, subst, arith, length, get_or, slice_get}
use Rattle.std.specs.List.{All}
use Rattle.cs_apm.specs.Atlases.{atlas_in}
use Rattle.cs_apm.specs.Slots.{FitsIn}
use Rattle.cs_apm.specs.declared.slot.Step.{Step}
use Rattle.cs_apm.proofs.Building.{fits}
use Rattle.cs_paths.specs.declared.path_order.PathOrder.{PathOrder}
use Rattle.cs_state.specs.Shares.{AreForOrders, AreIdsOf, IsLeft, IsTouched}
use Rattle.cs_state.proofs.shares.Shares.of.Goals as goal

pub marks_of-requires : goal.marks_of-requires
marks_of-requires c =
    let tables = c.args.tables.now in
    let long : c.len.result ≡ length tables.slots.items = c.len.ensures ∙ tables.slots.ok.0 in
    subst (λ (ss : List Step). (k : ℕ) (d : Step) → k < length ss → FitsIn c.len.result (get_or ss k d)) (sym c.deref.ensures.value)
    (subst (λ n. All (FitsIn n) tables.steps.items) (sym long)
    (fits c.args.trace.now c.args.micros.now (atlas_in tables) c.requires.atlas))

pub ids_of-requires-clause-shared : goal.ids_of-requires-clause-shared
ids_of-requires-clause-shared c =
    let tables = c.args.tables.now in
    let few : length tables.slots.items + 1 < 2 ^ 20 =
    (let entries = c.requires.atlas.few in let long = c.requires.atlas.long in let records = c.records.ensures.few in
    let ops = c.requires.few in omega (arith, entries, long, records, ops)) in
    subst (AreForOrders tables) (sym c.deref-2.ensures.value) (record {
      few = few;
      long = c.requires.atlas.long;
      marked = c.in_ok-marks.ensures.long ∙ (c.len.ensures ∙ tables.slots.ok.0);
      left = λ place gone. subst (λ ss. IsLeft ss place) c.deref.ensures.value (c.in_ok-marks.ensures.left place gone);
      touched = λ place here. subst (λ ss. IsTouched ss place) c.deref.ensures.value (c.in_ok-marks.ensures.touched place here);
    })

pub ids_of-requires-clause-places : goal.ids_of-requires-clause-places
ids_of-requires-clause-places c = λ t o at.
    (c.in_ok-paths.ensures.each t o (subst (λ (os : List PathOrder). slice_get os t ≡ Some o) c.deref-3.ensures.value at)).each

pub returns : goal.returns
returns c = record {
  paths = c.in_ok-paths.ensures;
  ids =
      subst (λ (os : List PathOrder). AreIdsOf c.args.tables.now os c.in_ok-ids.ids.items) c.deref-3.ensures.value c.in_ok-ids.ensures;
}
