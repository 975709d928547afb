use Rattle.std.proofs.Common.{◌<◌, get_or, length, refl, subst, sym, ◌∙◌}
use Rattle.std.proofs.lemmas.Bool.{false≢true}
use Rattle.cs_sets.specs.Orders.{needs_in}
use Rattle.cs_sets.specs.Sets.{IsAllowed}
use Rattle.cs_apm.specs.Profiles.{HasBothHalves, MayHaveHalves}
use Rattle.cs_apm.proofs.Agreeing.{allowed_by_order, allowed_by_rules}
use Rattle.cs_apm.proofs.profiles.may_be_left.Goals as goal

pub returns-then-not-is_allowed : goal.returns-then-not-is_allowed
returns-then-not-is_allowed c =
    let m = c.args.micros.now in
    let places = c.args.places.now in (
      (λ no. absurd (false≢true no)),
      (λ left. sym c.if-not-is_allowed.true ∙ c.is_allowed.ensures.1
          (subst (λ order. IsAllowed (needs_in order) (length order) places) (sym c.requires)
          (allowed_by_order m c.args.profile places left.allowed))),
    )

pub has_both_halves-requires-clause-inside : goal.has_both_halves-requires-clause-inside
has_both_halves-requires-clause-inside c =
    let m = c.args.micros.now in
    let places = c.args.places.now in
    let allowed =
    allowed_by_rules m c.args.profile places
    (subst (λ order. IsAllowed (needs_in order) (length order) places) c.requires (c.is_allowed.ensures.0 c.if-not-is_allowed.false)) in
    λ a low. subst (λ ops. get_or places a 0 < length ops) (sym c.ops.ensures.value) (allowed.in_range a low)

pub has_both_halves-requires-in-Journal-clause-inside :
    goal.has_both_halves-requires-in-Journal-clause-inside
has_both_halves-requires-in-Journal-clause-inside c =
    let m = c.args.micros.now in
    let places = c.args.places.now in
    let allowed =
    allowed_by_rules m c.args.profile places
    (subst (λ order. IsAllowed (needs_in order) (length order) places) c.requires (c.is_allowed.ensures.0 c.if-not-is_allowed.false)) in
    λ a low. subst (λ ops. get_or places a 0 < length ops) (sym c.ops-in-Journal.ensures.value) (allowed.in_range a low)

pub returns-in-Blocks : goal.returns-in-Blocks
returns-in-Blocks c =
    let m = c.args.micros.now in
    let places = c.args.places.now in (
      (λ yes. record {
        allowed = allowed_by_rules m c.args.profile places
            (subst (λ order. IsAllowed (needs_in order) (length order) places) c.requires
            (c.is_allowed.ensures.0 c.if-not-is_allowed.false));
        halves = subst (λ p. MayHaveHalves p m.ops places) (sym c.in-Blocks.is) tt;
      }),
      (λ left. refl),
    )

pub returns-in-Ordered : goal.returns-in-Ordered
returns-in-Ordered c =
    let m = c.args.micros.now in
    let places = c.args.places.now in (
      (λ yes. record {
        allowed = allowed_by_rules m c.args.profile places
            (subst (λ order. IsAllowed (needs_in order) (length order) places) c.requires
            (c.is_allowed.ensures.0 c.if-not-is_allowed.false));
        halves = subst (λ p. MayHaveHalves p m.ops places) (sym c.in-Ordered.is)
            (subst (λ ops. HasBothHalves ops places) c.ops.ensures.value (c.has_both_halves.ensures.0 yes));
      }),
      (λ left. c.has_both_halves.ensures.1
          (subst (λ ops. HasBothHalves ops places) (sym c.ops.ensures.value)
          (subst (λ p. MayHaveHalves p m.ops places) c.in-Ordered.is left.halves))),
    )

pub returns-in-Journal : goal.returns-in-Journal
returns-in-Journal c =
    let m = c.args.micros.now in
    let places = c.args.places.now in (
      (λ yes. record {
        allowed = allowed_by_rules m c.args.profile places
            (subst (λ order. IsAllowed (needs_in order) (length order) places) c.requires
            (c.is_allowed.ensures.0 c.if-not-is_allowed.false));
        halves = subst (λ p. MayHaveHalves p m.ops places) (sym c.in-Journal.is)
            (subst (λ ops. HasBothHalves ops places) c.ops-in-Journal.ensures.value (c.has_both_halves-in-Journal.ensures.0 yes));
      }),
      (λ left. c.has_both_halves-in-Journal.ensures.1
          (subst (λ ops. HasBothHalves ops places) (sym c.ops-in-Journal.ensures.value)
          (subst (λ p. MayHaveHalves p m.ops places) c.in-Journal.is left.halves))),
    )
