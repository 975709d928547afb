use Rattle.std.proofs.Common.{◌≡◌, ℕ, ◌<◌, sym, ap, ◌∙◌, subst, map, fold, length, arith, get_or}
use Rattle.cs_micro.specs.Micros.{micros_in}
use Rattle.cs_apm.specs.Atlases.{atlas_in}
use Rattle.cs_apm.specs.Rules.{op_at}
use Rattle.cs_apm.specs.Slots.{slot_at, slots_after, step_at}
use Rattle.cs_apm.proofs.Building.{fits, inside_steps}
use Rattle.cs_apm.proofs.Folding.{if_ok}
use Rattle.cs_same_states.specs.Parts.{IsAlikeBy}
use Rattle.cs_same_states.specs.Slots.{AreAlike}
use Rattle.cs_same_states.proofs.Equal.{alike_trees, pair_of}
use Rattle.cs_same_states.proofs.Listing.{few_long, fit_few}
use Rattle.cs_same_states.proofs.leaving.is_equal_pair.Goals as goal

pub slots_left-requires-clause-fit : goal.slots_left-requires-clause-fit
slots_left-requires-clause-fit c =
    let p = c.args.pair.now in
    fit_few p.tables.now.slots.items p.tables.now.steps.items c.args.touched.now c.requires.touched
    (fits p.trace.now (micros_in p.trace.now) (atlas_in p.tables.now) c.requires.allowed.atlas)

pub slots_left-requires-clause-inside : goal.slots_left-requires-clause-inside
slots_left-requires-clause-inside c = λ k d low.
    let p = c.args.pair.now in
    let there =
    inside_steps p.trace.now (micros_in p.trace.now) (atlas_in p.tables.now) c.requires.allowed.atlas p.places.now
    c.requires.allowed.first k d low in
    let long = c.requires.touched.renumbered.long in
    omega (arith, there, long)

pub slots_left-requires-2-clause-fit : goal.slots_left-requires-2-clause-fit
slots_left-requires-2-clause-fit c =
    let p = c.args.pair.now in
    fit_few p.tables.now.slots.items p.tables.now.steps.items c.args.touched.now c.requires.touched
    (fits p.trace.now (micros_in p.trace.now) (atlas_in p.tables.now) c.requires.allowed.atlas)

pub slots_left-requires-2-clause-inside : goal.slots_left-requires-2-clause-inside
slots_left-requires-2-clause-inside c = λ k d low.
    let p = c.args.pair.now in
    let there =
    inside_steps p.trace.now (micros_in p.trace.now) (atlas_in p.tables.now) c.requires.allowed.atlas p.others.now
    c.requires.allowed.second k d low in
    let long = c.requires.touched.renumbered.long in
    omega (arith, there, long)

pub are_all_alike-requires-clause-pair : goal.are_all_alike-requires-clause-pair
are_all_alike-requires-clause-pair c = pair_of c.args.pair.now c.requires.allowed

pub are_all_alike-requires-clause-long : goal.are_all_alike-requires-clause-long
are_all_alike-requires-clause-long c =
    let p = c.args.pair.now in
    let fit = fits p.trace.now (micros_in p.trace.now) (atlas_in p.tables.now) c.requires.allowed.atlas in
    let slots = p.tables.now.slots.items in
    let steps = p.tables.now.steps.items in
    ap length (c.deref.ensures.value ∙ c.in_ok-first.ensures) ∙ few_long slots steps c.args.touched.now c.requires.touched fit p.places.now
    ∙ sym (ap length (c.deref-2.ensures.value ∙ c.in_ok-second.ensures) ∙ few_long slots steps c.args.touched.now c.requires.touched fit
    p.others.now)

pub are_alike_by-requires-clause-pair : goal.are_alike_by-requires-clause-pair
are_alike_by-requires-clause-pair c = pair_of c.args.pair.now c.requires.allowed

pub are_alike_by-requires-clause-long : goal.are_alike_by-requires-clause-long
are_alike_by-requires-clause-long c =
    let p = c.args.pair.now in
    let fit = fits p.trace.now (micros_in p.trace.now) (atlas_in p.tables.now) c.requires.allowed.atlas in
    let slots = p.tables.now.slots.items in
    let steps = p.tables.now.steps.items in
    ap length (c.deref-3.ensures.value ∙ c.in_ok-first.ensures) ∙ few_long slots steps c.args.touched.now c.requires.touched fit
    p.places.now
    ∙ sym (ap length (c.deref-4.ensures.value ∙ c.in_ok-second.ensures) ∙ few_long slots steps c.args.touched.now c.requires.touched fit
    p.others.now)

pub returns : goal.returns
returns c =
    let p = c.args.pair.now in
    let h = c.requires.allowed in
    let touched = c.args.touched.now in
    let fixed = c.args.fixed.now in
    let first = fold slots_after touched.slots.items (map (step_at touched.steps.items) p.places.now) in
    let second = fold slots_after touched.slots.items (map (step_at touched.steps.items) p.others.now) in
    let found = c.in_ok-found.found.items in
    let one : c.deref.result.now ≡ first = c.deref.ensures.value ∙ c.in_ok-first.ensures in
    let two : c.deref-2.result.now ≡ second = c.deref-2.ensures.value ∙ c.in_ok-second.ensures in
    let one_too : c.deref-3.result.now ≡ first = c.deref-3.ensures.value ∙ c.in_ok-first.ensures in
    let two_too : c.deref-4.result.now ≡ second = c.deref-4.ensures.value ∙ c.in_ok-second.ensures in
    let places : c.deref-5.result.now ≡ found = c.deref-5.ensures.value in
    let alike : (r : ℕ) → r < length first → AreAlike p (slot_at first r) (slot_at second r) =
    subst (λ v. (r : ℕ) → r < length v → AreAlike p (slot_at v r) (slot_at second r)) one
    (subst (λ w. (r : ℕ) → r < length c.deref.result.now → AreAlike p (slot_at c.deref.result.now r) (slot_at w r)) two
    (c.in_ok-are_all_alike.ensures c.if-not-branch.false)) in
    if_ok c.are_alike_by.result (λ same given yes.
    alike_trees p (pair_of p h) (micros_in p.trace.now) h.ops h.atlas h.first h.second touched c.requires.touched fixed c.requires.fixed
    alike found c.in_ok-found.ensures
    (subst (λ ks. (k : ℕ) → k < length ks → IsAlikeBy p fixed first second (op_at p.ops.now (get_or ks k 0))) places
    (subst (λ v. (k : ℕ) → k < length c.deref-5.result.now → IsAlikeBy p fixed v second (op_at p.ops.now (get_or c.deref-5.result.now k 0)))
    one_too
    (subst (λ w. (k : ℕ) → k < length c.deref-5.result.now
    → IsAlikeBy p fixed c.deref-3.result.now w (op_at p.ops.now (get_or c.deref-5.result.now k 0))) two_too (given yes)))))
    c.are_alike_by.ensures
