use Rattle.std.proofs.Common.{arith, inr, refl, length, sym, ap, ◌∙◌, ◌+◌, [], subst, ◌≡◌}
use Rattle.std.proofs.lemmas.List.Elements.{All-nil}
use Rattle.std.specs.List.{All, flat_map}
use Rattle.cs_sets.specs.Different.{firsts, leave_alike}
use Rattle.cs_sets.specs.Rows.{bit_in, needed_in}
use Rattle.cs_different.specs.Classing.{IsClass, Leads, extensions, one_key}
use Rattle.cs_different.specs.Seen.{none_seen, see}
use Rattle.cs_different.proofs.Seeing.{sees_alike}
use Rattle.cs_different.proofs.Leading.{grown_leads, leads_pruned, last_leads, firsts_all}
use Rattle.cs_different.proofs.Numbered.{fewer_firsts, one_each}
use Rattle.cs_different.proofs.classes.classes_of.Goals as goal

pub loop-place-init : goal.loop-place-init
loop-place-init c =
    let act = see (bit_in c.args.wanted.now) in
    let needs = needed_in c.args.needed.now in
    let n = length c.args.needed.now in
    let extends = c.in_ok-level.ensures.extends in
    record {
      classes = c.in_ok-level.ensures.classes (bit_in c.args.wanted.now);
      leads = λ like fine coarser. ap (firsts (leave_alike like act none_seen)) extends;
      few = (let long = ap length extends in omega (arith, long));
    }

pub loop-place-preserved : goal.loop-place-preserved
loop-place-preserved c =
    let act = see (bit_in c.args.wanted.now) in
    let needs = needed_in c.args.needed.now in
    let n = length c.args.needed.now in
    let k = c.loop-place.place in
    let P = IsClass act none_seen needs n (k + 1) in
    let made = c.in_ok-kept.ensures.made in
    let kept = c.in_ok-kept.ensures.of_each in
    let grown = c.in_ok-kept.ensures.extend ∙ ap (flat_map (extensions needs n k)) c.as_slice.ensures.value in
    record {
      classes = subst (All P) (sym kept) (firsts_all P one_key made [] c.in_ok-kept.ensures.are (All-nil P));
      leads = λ like fine coarser. subst (Leads like act none_seen needs n (k + 1)) (sym kept)
          (leads_pruned act none_seen needs n
          (λ s t j. sees_alike n (bit_in c.args.wanted.now) s t j) like fine coarser (k + 1) made (omega arith) c.in_ok-kept.ensures.are
          (grown_leads act none_seen needs n like k c.loop-place.level.items made grown (c.loop-place.invariant.leads like fine coarser)));
      few = fewer_firsts needs n k c.loop-place.level.items made c.in_ok-kept.kept.items kept grown c.loop-place.invariant.few;
    }

pub returns-clause-firsts : goal.returns-clause-firsts
returns-clause-firsts c = λ like fine coarser.
    let act = see (bit_in c.args.wanted.now) in
    let needs = needed_in c.args.needed.now in
    let n = length c.args.needed.now in
    let all : c.loop-place.place ≡ n = omega arith in
    last_leads act none_seen needs n like c.loop-place.level.items
    (subst (λ k. Leads like act none_seen needs n k c.loop-place.level.items) all (c.loop-place.invariant.leads like fine coarser))

pub returns-clause-classes : goal.returns-clause-classes
returns-clause-classes c =
    let act = see (bit_in c.args.wanted.now) in
    let needs = needed_in c.args.needed.now in
    let n = length c.args.needed.now in
    let all : c.loop-place.place ≡ n = omega arith in
    subst (λ k. All (IsClass act none_seen needs n k) c.loop-place.level.items) all c.loop-place.invariant.classes

pub returns-then-len-gt-CLASSES-clause-refused : goal.returns-then-len-gt-CLASSES-clause-refused
returns-then-len-gt-CLASSES-clause-refused c =
    let needs = needed_in c.args.needed.now in
    let n = length c.args.needed.now in
    let k = c.loop-place.place in
    let made = c.in_ok-kept.ensures.made in
    let kept = c.in_ok-kept.ensures.of_each in
    let grown = c.in_ok-kept.ensures.extend ∙ ap (flat_map (extensions needs n k)) c.as_slice.ensures.value in
    let few = fewer_firsts needs n k c.loop-place.level.items made c.in_ok-kept.kept.items kept grown c.loop-place.invariant.few in
    let one = one_each needs n (k + 1) c.in_ok-kept.kept.items in
    inr (refl, omega (arith, few, one, c.if-len-gt-CLASSES.true, c.len.ensures))
