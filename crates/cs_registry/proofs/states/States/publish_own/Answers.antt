use Rattle.std.proofs.Common.{◌≡◌, ◌∙◌, length, Some, None, false, arith, sym, ap, is_some, subst}
use Rattle.std.specs.Prelude.{map, slice_get, slice_index_or}
use Rattle.std.specs.Arc.{arc_value}
use Rattle.cs_plan.specs.Scenes.{IsPublished}
use Rattle.cs_registry.specs.Registries.{Registry, is_published}
use Rattle.cs_registry.specs.Publishing.{with_published}
use Rattle.cs_registry.proofs.Keeping.{blank_at, blank_now, has_place, is_published_now, published_kept, some_missing}
use Rattle.cs_registry.proofs.states.States.publish_own.Goals as goal

pub index-requires : goal.index-requires
index-requires g c =
    let scenes : c.args.state.scene ≡ arc_value c.self.inside.scene = rw (← c.self.view_is) at c.requires.own in
    omega (
      arith,
      c.self.inside.states.ok,
      has_place c.self.invariant.0 c.args.state c.number-number.ensures.published scenes _
          c.number-number.ensures.value,
    )

pub overflow_sub-self : goal.overflow_sub-self
overflow_sub-self g c =
    let scenes : c.args.state.scene ≡ arc_value c.self.inside.scene = rw (← c.self.view_is) at c.requires.own in
    let none =
    blank_at c.self.invariant.0 c.args.state c.number-number.ensures.published scenes _ c.number-number.ensures.value c.index.result.now
    c.index.ensures (sym c.is_some.ensures ∙ c.if-is_some.false) in
    some_missing c.in-Ok.state c.self.inside.states.items c.number-number.result none c.self.inside.runs.entries c.self.inside.missing
    c.self.invariant.0.left

pub invariant_of-self : goal.invariant_of-self
invariant_of-self g c =
    let n = c.number-number.result in
    let scenes : c.args.state.scene ≡ arc_value c.self.inside.scene = rw (← c.self.view_is) at c.requires.own in
    let none =
    blank_at c.self.invariant.0 c.args.state c.number-number.ensures.published scenes _ c.number-number.ensures.value c.index.result.now
    c.index.ensures (sym c.is_some.ensures ∙ c.if-is_some.false) in
    let trees : c.args.state.tree ≡ arc_value c.in-Ok.state = sym c.into_store.ensures.tree ∙ sym c.in-Ok.ensures.ok in
    let same : c.args.state ≡ record {
      number = n;
      scene = arc_value c.self.inside.scene;
      tree = arc_value c.in-Ok.state;
    } = λ i. record { number = sym c.number-number.ensures.value i; scene = scenes i; tree = trees i } in (
      published_kept c.in-Ok.state c.self.inside.states.items n none c.self.inside.runs.entries g.H.Held.admits
          (arc_value c.self.inside.scene) arc_value c.self.inside.missing c.self.invariant.0
          (subst IsPublished same c.into_store.ensures.published),
      c.self.invariant.1,
    )

pub returns : goal.returns
returns g c =
    let R : Type 0 = Registry g.row.H.Denot in
    let xs = c.self.inside.states.items in
    let n = c.number-number.result in
    let v = c.self.view_is in
    let number : n ≡ c.args.state.number = c.number-number.ensures.value in
    let scenes : c.args.state.scene ≡ arc_value c.self.inside.scene = rw (← v) at c.requires.own in
    let none : slice_get xs n ≡ Some None =
    blank_at c.self.invariant.0 c.args.state c.number-number.ensures.published scenes n number c.index.result.now c.index.ensures
    (sym c.is_some.ensures ∙ c.if-is_some.false) in (
      (
        omega (
          arith,
          c.self.invariant.0.each,
          has_place c.self.invariant.0 c.args.state c.number-number.ensures.published scenes n number,
          ap
              (λ (r : R). length r.scene.plan) v,
        ),
        c.requires.own,
      ),
      ap (λ (r : R). is_published r c.args.state.number) (sym v) ∙
          (ap (λ k. slice_index_or (map is_some xs) k false) (sym number) ∙ blank_now xs n none),
      is_published_now c.in-Ok.state xs n none c.self.inside.runs.entries (arc_value c.self.inside.scene) (arc_value c.self.inside.users)
          c.args.self.now v ∙ ap (with_published c.args.self.now) number,
    )
