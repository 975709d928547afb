use Rattle.std.proofs.Common.{arith, length, subst, refl, sym, ◌∙◌, get_or}
use Rattle.std.proofs.lemmas.Bool.{false≢true}
use Rattle.cs_sets.specs.Orders.{needs_in}
use Rattle.cs_sets.proofs.Admitting.{IsSoFar, none_so_far, one_more, all_so_far, after_too, in_range_too, needed_too}
use Rattle.cs_sets.proofs.order.Order.is_allowed.Goals as goal

pub loop-place-init : goal.loop-place-init
loop-place-init c =
    none_so_far (needs_in c.args.self.now) (length c.args.self.now) c.args.places.now c.empty-members.result c.empty-members.ensures

pub loop-place-preserved : goal.loop-place-preserved
loop-place-preserved c =
    one_more (needs_in c.args.self.now) (length c.args.self.now) c.args.places.now c.loop-place.members c.set.new.self c.loop-place.next
    c.loop-place.place-index
    (get_or c.args.places.now c.loop-place.place-index 0) refl (omega arith) (omega arith)
    (c.needs_only.ensures.value.0 c.if-not-needs_only.false) c.set.ensures c.loop-place.invariant

pub returns-then-place-next : goal.returns-then-place-next
returns-then-place-next c = (
  (λ t. absurd (false≢true t)),
  (λ h.
      let low =
      after_too (needs_in c.args.self.now) (length c.args.self.now) c.args.places.now c.loop-place.members c.loop-place.next
      c.loop-place.place-index
      (get_or c.args.places.now c.loop-place.place-index 0) c.loop-place-test.true refl c.loop-place.invariant h in
      absurd (omega (arith, low))),
)

pub returns-then-place-len : goal.returns-then-place-len
returns-then-place-len c = (
  (λ t. absurd (false≢true t)),
  (λ h.
      let low =
      in_range_too (needs_in c.args.self.now) (length c.args.self.now) c.args.places.now c.loop-place.members c.loop-place.next
      c.loop-place.place-index
      (get_or c.args.places.now c.loop-place.place-index 0) c.loop-place-test.true refl c.loop-place.invariant h in
      absurd (omega (arith, low))),
)

pub returns-then-not-needs_only : goal.returns-then-not-needs_only
returns-then-not-needs_only c = (
  (λ t. absurd (false≢true t)),
  (λ h.
      absurd (false≢true
      (sym c.if-not-needs_only.true ∙ c.needs_only.ensures.value.1
      (needed_too (needs_in c.args.self.now) (length c.args.self.now) c.args.places.now c.loop-place.members c.loop-place.next
      c.loop-place.place-index
      (get_or c.args.places.now c.loop-place.place-index 0) c.loop-place-test.true refl c.loop-place.invariant h
      c.needs_only.ensures.backward)))),
)

pub returns : goal.returns
returns c = (
  (λ t. all_so_far (needs_in c.args.self.now) (length c.args.self.now) c.args.places.now c.loop-place.members c.loop-place.next
      (subst (λ w. IsSoFar (needs_in c.args.self.now) (length c.args.self.now) c.args.places.now c.loop-place.members c.loop-place.next w)
      (omega arith) c.loop-place.invariant)),
  (λ h. refl),
)
