use Rattle.std.proofs.Common.{rules, refl, sym, subst}
use Rattle.cs_different.specs.Members.{AreAll, IsMember, sets_told}
use Rattle.cs_picks.proofs.under.write_every_under.Goals as goal

pub returns-then-has_more_than-clause-fault : goal.returns-then-has_more_than-clause-fault
returns-then-has_more_than-clause-fault g c =
    let members = c.in_ok-members.members in
    let firsts = c.as_slice-firsts.result.now in
    let are : AreAll (IsMember c.args.scene.now c.args.profile) (sets_told members.order firsts) =
    subst (λ v. AreAll (IsMember c.args.scene.now c.args.profile) (sets_told members.order v)) (sym c.as_slice-firsts.ensures.value)
    c.in_ok-members.ensures.told in
    (refl, (sets_told members.order firsts, (are, c.has_more_than.ensures.0 c.if-has_more_than.true)))

pub returns-clause-written : goal.returns-clause-written
returns-clause-written g c =
    let members = c.in_ok-members.members in
    let firsts = c.as_slice-firsts.result.now in
    record {
      sets = sets_told members.order firsts;
      are = subst (λ v. AreAll (IsMember c.args.scene.now c.args.profile) (sets_told members.order v)) (sym c.as_slice-firsts.ensures.value)
          c.in_ok-members.ensures.told;
      few = search rules;
      written = c.in_ok-write_members.ensures.text;
    }
