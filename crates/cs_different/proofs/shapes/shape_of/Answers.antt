use Rattle.std.proofs.Common.{◌≡◌, ◌<◌, ap, fold, length, map, ◌∙◌, sym, subst}
use Rattle.std.specs.List.{All}
use Rattle.cs_plan.specs.Scenes.{micros_of}
use Rattle.cs_sets.specs.Places.{places_of}
use Rattle.cs_apm.specs.Atlases.{atlas_in}
use Rattle.cs_apm.specs.Slots.{slots_after, step_at}
use Rattle.cs_apm.proofs.Building.{fits, inside_steps, long_left}
use Rattle.cs_different.specs.Shapes.{shape_of_slots}
use Rattle.cs_different.proofs.shapes.shape_of.Goals as goal

pub slots_of_set-requires-clause-fit : goal.slots_of_set-requires-clause-fit
slots_of_set-requires-clause-fit c =
    fits c.args._scene.now.trace (micros_of c.args._scene.now) (atlas_in c.args.parts.now.tables) c.requires.parts.atlas

pub slots_of_set-requires-clause-inside : goal.slots_of_set-requires-clause-inside
slots_of_set-requires-clause-inside c =
    subst (All (λ place. place < length c.args.parts.now.tables.steps.items)) (sym (c.deref.ensures.value ∙ c.in_ok-places.ensures))
    (inside_steps c.args._scene.now.trace (micros_of c.args._scene.now) (atlas_in c.args.parts.now.tables) c.requires.parts.atlas
    (places_of c.args.set.now) c.requires.allowed)

pub digest_slots-requires : goal.digest_slots-requires
digest_slots-requires c =
    let t = c.args.parts.now.tables in
    let left : c.deref-3.result.now ≡ fold slots_after t.slots.items (map (step_at t.steps.items) (places_of c.args.set.now)) =
    c.deref-3.ensures.value ∙ c.in_ok-slots.ensures
    ∙ ap (λ v. fold slots_after t.slots.items (map (step_at t.steps.items) v)) (c.deref.ensures.value ∙ c.in_ok-places.ensures) in
    ap length left
    ∙ long_left c.args._scene.now.trace (micros_of c.args._scene.now) (atlas_in t) c.requires.parts.atlas (places_of c.args.set.now)
    c.requires.allowed
    ∙ sym (ap length c.deref-2.ensures.value)

pub returns : goal.returns
returns c =
    let t = c.args.parts.now.tables in
    let left : c.deref-3.result.now ≡ fold slots_after t.slots.items (map (step_at t.steps.items) (places_of c.args.set.now)) =
    c.deref-3.ensures.value ∙ c.in_ok-slots.ensures
    ∙ ap (λ v. fold slots_after t.slots.items (map (step_at t.steps.items) v)) (c.deref.ensures.value ∙ c.in_ok-places.ensures) in
    c.digest_slots.ensures ∙ (λ i. shape_of_slots (c.deref-2.ensures.value i) (left i))
