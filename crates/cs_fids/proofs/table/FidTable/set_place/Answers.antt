use Rattle.std.proofs.Common.{◌∙◌, ap, refl, None, Some, vec_capacity}
use Rattle.std.specs.FinMap.{insert}
use Rattle.indexmap.specs.IndexMap.{spare}
use Rattle.cs_fids.specs.Fids.{with_place}
use Rattle.cs_fids.specs.Tables.{opened_in}
use Rattle.cs_fids.proofs.Changes.{kept, now_at, same_room, stays, was_at}
use Rattle.cs_fids.proofs.Keeping.{placed_alike}
use Rattle.cs_fids.proofs.Maps.{found_at}
use Rattle.cs_fids.proofs.Results.{if_ok, on_err}
use Rattle.cs_fids.proofs.table.FidTable.set_place.Goals as goal

pub returns-in_default-clause-faults : goal.returns-in_default-clause-faults
returns-in_default-clause-faults c =
    let none =
    found_at c.self.inside.fids.entries (spare c.self.inside.fids) (vec_capacity c.self.inside.opens) c.args.self.now c.args.fid None
    c.self.view_is c.in_default.ensures.value in
    rw none refl

pub returns-in_default-clause-fids : goal.returns-in_default-clause-fids
returns-in_default-clause-fids c =
    let none =
    found_at c.self.inside.fids.entries (spare c.self.inside.fids) (vec_capacity c.self.inside.opens) c.args.self.now c.args.fid None
    c.self.view_is c.in_default.ensures.value in
    rw none tt

pub invariant_of-self-2 : goal.invariant_of-self-2
invariant_of-self-2 c =
    kept c.self.inside.fids c.args.fid c.in-Some.slot.now c.in-Some.ensures.value
    c.set_place.new.self _ (c.get_mut.follows.holds c.set_place.new.self)
    c.self.inside.opens.items (vec_capacity c.self.inside.opens) c.self.invariant
    (placed_alike c.in-Some.slot.now c.set_place.new.self c.set_place.result (λ f. with_place f c.args.place) c.set_place.ensures.faults
    c.set_place.ensures.entry c.set_place.ensures.unchanged)

pub returns-clause-faults : goal.returns-clause-faults
returns-clause-faults c =
    let there = was_at c.self.inside.fids c.args.fid c.in-Some.slot.now c.in-Some.ensures.value
    c.args.self.now (vec_capacity c.self.inside.opens) c.self.view_is in
    rw there c.set_place.ensures.faults

pub returns-clause-fids : goal.returns-clause-fids
returns-clause-fids c =
    let there = was_at c.self.inside.fids c.args.fid c.in-Some.slot.now c.in-Some.ensures.value
    c.args.self.now (vec_capacity c.self.inside.opens) c.self.view_is in
    let after = now_at c.self.inside.fids c.args.fid c.in-Some.slot.now c.in-Some.ensures.value
    c.set_place.new.self _ (c.get_mut.follows.holds c.set_place.new.self)
    c.args.self.now (vec_capacity c.self.inside.opens) c.self.view_is in
    rw there (if_ok (opened_in (Some c.in-Some.slot.now)) _ _ (λ x e. after ∙ ap (insert c.args.self.now.fids c.args.fid) e)
    c.set_place.ensures.entry)

pub returns-clause-unchanged : goal.returns-clause-unchanged
returns-clause-unchanged c =
    on_err c.set_place.result _ _
    (stays c.self.inside.fids c.args.fid c.in-Some.slot.now c.in-Some.ensures.value
    c.set_place.new.self _ (c.get_mut.follows.holds c.set_place.new.self)
    c.args.self.now (vec_capacity c.self.inside.opens) c.self.view_is) c.set_place.ensures.unchanged

pub returns-clause-room : goal.returns-clause-room
returns-clause-room c =
    same_room c.self.inside.fids c.args.fid c.in-Some.slot.now c.in-Some.ensures.value
    c.set_place.new.self _ (c.get_mut.follows.holds c.set_place.new.self)
    c.args.self.now (vec_capacity c.self.inside.opens) c.self.view_is
