use Rattle.std.proofs.Common.{ap, false, not, sym, subst, true}
use Rattle.std.proofs.lemmas.List.Elements.{All-push}
use Rattle.std.specs.List.{All}
use Rattle.cs_sets.specs.Places.{places_of}
use Rattle.cs_different.specs.Sets.{IsFound}
use Rattle.cs_different.specs.declared.finding.Found.{Found}
use Rattle.cs_different.proofs.Kept.{kept_met, kept_new, kept_told}
use Rattle.cs_different.proofs.finding.keep.Goals as goal

pub returns-then-branch-clause-sets : goal.returns-then-branch-clause-sets
returns-then-branch-clause-sets c =
    kept_met c.args.scene.now c.args.kept.now.items c.as_slice.result.now (places_of c.args.set.now) c.in_ok-is_met.field-0
    c.as_slice.ensures.value
    c.in_ok-is_met.ensures c.if-branch.true

pub returns-clause-sets : goal.returns-clause-sets
returns-clause-sets c =
    let found : Found = record { set = c.args.set.now; digest = c.in_ok-left.left.digest } in
    kept_new c.args.scene.now c.args.kept.now.items c.as_slice.result.now found c.push.new.self.items c.in_ok-is_met.field-0
    c.as_slice.ensures.value
    c.in_ok-is_met.ensures c.if-branch.false c.in_ok-push.ensures.items

pub returns-clause-kept : goal.returns-clause-kept
returns-clause-kept c =
    let found : Found = record { set = c.args.set.now; digest = c.in_ok-left.left.digest } in
    subst (All (IsFound c.args.scene.now)) (sym c.in_ok-push.ensures.items)
    (All-push (IsFound c.args.scene.now) c.args.kept.now.items found c.requires.kept
    (record { set = c.requires.set; digest = c.in_ok-left.ensures.digest }))

pub returns-then-branch-clause-new : goal.returns-then-branch-clause-new
returns-then-branch-clause-new c =
    kept_told c.args.scene.now c.args.kept.now.items c.as_slice.result.now (places_of c.args.set.now) c.in_ok-is_met.field-0 false
    c.as_slice.ensures.value c.in_ok-is_met.ensures (ap not (sym c.if-branch.true))

pub returns-clause-new : goal.returns-clause-new
returns-clause-new c =
    kept_told c.args.scene.now c.args.kept.now.items c.as_slice.result.now (places_of c.args.set.now) c.in_ok-is_met.field-0 true
    c.as_slice.ensures.value c.in_ok-is_met.ensures (ap not (sym c.if-branch.false))
