use Rattle.std.proofs.Common.{◌∙◌, ap, refl, None, Some, vec_capacity}
use Rattle.std.specs.FinMap.{insert}
use Rattle.indexmap.specs.IndexMap.{spare}
use Rattle.cs_fids.specs.Fids.{moved_to}
use Rattle.cs_fids.specs.Tables.{walked_in}
use Rattle.cs_fids.proofs.Changes.{kept, now_at, same_room, stays, was_at}
use Rattle.cs_fids.proofs.Keeping.{moved_alike}
use Rattle.cs_fids.proofs.Maps.{found_at}
use Rattle.cs_fids.proofs.Results.{if_ok, on_err}
use Rattle.cs_fids.proofs.table.FidTable.move_to.Goals as goal

pub returns-in_default-clause-faults : goal.returns-in_default-clause-faults
returns-in_default-clause-faults c =
    let none =
    found_at c.self.inside.fids.entries (spare c.self.inside.fids) (vec_capacity c.self.inside.opens) c.args.self.now c.args.fid None
    c.self.view_is c.in_default.ensures.value in
    rw none refl

pub returns-in_default-clause-fids : goal.returns-in_default-clause-fids
returns-in_default-clause-fids c =
    let none =
    found_at c.self.inside.fids.entries (spare c.self.inside.fids) (vec_capacity c.self.inside.opens) c.args.self.now c.args.fid None
    c.self.view_is c.in_default.ensures.value in
    rw none tt

pub invariant_of-self-2 : goal.invariant_of-self-2
invariant_of-self-2 c =
    kept c.self.inside.fids c.args.fid c.in-Some.slot.now c.in-Some.ensures.value
    c.move_to.new.self _ (c.get_mut.follows.holds c.move_to.new.self)
    c.self.inside.opens.items (vec_capacity c.self.inside.opens) c.self.invariant
    (moved_alike c.in-Some.slot.now c.move_to.new.self c.move_to.result (λ w. moved_to w c.args.number) c.move_to.ensures.faults
    c.move_to.ensures.entry c.move_to.ensures.unchanged)

pub returns-clause-faults : goal.returns-clause-faults
returns-clause-faults c =
    let there = was_at c.self.inside.fids c.args.fid c.in-Some.slot.now c.in-Some.ensures.value
    c.args.self.now (vec_capacity c.self.inside.opens) c.self.view_is in
    rw there c.move_to.ensures.faults

pub returns-clause-fids : goal.returns-clause-fids
returns-clause-fids c =
    let there = was_at c.self.inside.fids c.args.fid c.in-Some.slot.now c.in-Some.ensures.value
    c.args.self.now (vec_capacity c.self.inside.opens) c.self.view_is in
    let after = now_at c.self.inside.fids c.args.fid c.in-Some.slot.now c.in-Some.ensures.value
    c.move_to.new.self _ (c.get_mut.follows.holds c.move_to.new.self)
    c.args.self.now (vec_capacity c.self.inside.opens) c.self.view_is in
    rw there (if_ok (walked_in (Some c.in-Some.slot.now)) _ _ (λ x e. after ∙ ap (insert c.args.self.now.fids c.args.fid) e)
    c.move_to.ensures.entry)

pub returns-clause-unchanged : goal.returns-clause-unchanged
returns-clause-unchanged c =
    on_err c.move_to.result _ _
    (stays c.self.inside.fids c.args.fid c.in-Some.slot.now c.in-Some.ensures.value
    c.move_to.new.self _ (c.get_mut.follows.holds c.move_to.new.self)
    c.args.self.now (vec_capacity c.self.inside.opens) c.self.view_is) c.move_to.ensures.unchanged

pub returns-clause-room : goal.returns-clause-room
returns-clause-room c =
    same_room c.self.inside.fids c.args.fid c.in-Some.slot.now c.in-Some.ensures.value
    c.move_to.new.self _ (c.get_mut.follows.holds c.move_to.new.self)
    c.args.self.now (vec_capacity c.self.inside.opens) c.self.view_is
