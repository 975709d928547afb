use Rattle.std.proofs.Common.{◌∙◌, ap, refl, subst, sym, Err, None, Some, arith, length, ◌<◌, vec_capacity}
use Rattle.std.proofs.lemmas.Result.{err_from_is_err_and}
use Rattle.std.specs.FinMap.{insert}
use Rattle.indexmap.specs.IndexMap.{spare}
use Rattle.cs_fids.specs.Entries.{is_open}
use Rattle.cs_fids.specs.Fids.{opened_fid}
use Rattle.cs_fids.specs.FidOf.{FidOf}
use Rattle.cs_fids.specs.Tables.{FailsAs, walked_in}
use Rattle.cs_fids.specs.declared.fid.Walked.{Walked}
use Rattle.cs_fids.proofs.Changes.{has_place, kept, not_among, now_at, opened, stays, was_at}
use Rattle.cs_fids.proofs.Keeping.{opened_now}
use Rattle.cs_fids.proofs.Maps.{found_at}
use Rattle.cs_fids.proofs.Results.{fails_alone, found_again, if_ok}
use Rattle.cs_fids.proofs.table.FidTable.open.Goals as goal

pub returns-in_default-clause-faults : goal.returns-in_default-clause-faults
returns-in_default-clause-faults c =
    let none =
    found_at c.self.inside.fids.entries (spare c.self.inside.fids) (vec_capacity c.self.inside.opens) c.args.self.now c.args.fid None
    c.self.view_is c.in_default.ensures.value in
    rw none refl

pub returns-in_default-clause-fids : goal.returns-in_default-clause-fids
returns-in_default-clause-fids c =
    let none =
    found_at c.self.inside.fids.entries (spare c.self.inside.fids) (vec_capacity c.self.inside.opens) c.args.self.now c.args.fid None
    c.self.view_is c.in_default.ensures.value in
    rw none tt

pub invariant_of-self-in_err-open : goal.invariant_of-self-in_err-open
invariant_of-self-in_err-open c =
    kept c.self.inside.fids c.args.fid c.in-Some.slot.now c.in-Some.ensures.value
    c.open.new.self _ (c.get_mut.follows.holds c.open.new.self)
    c.self.inside.opens.items (vec_capacity c.self.inside.opens) c.self.invariant (ap is_open c.in_err-open.ensures.unchanged)

pub returns-in_err-open-clause-faults : goal.returns-in_err-open-clause-faults
returns-in_err-open-clause-faults c =
    let there = was_at c.self.inside.fids c.args.fid c.in-Some.slot.now c.in-Some.ensures.value
    c.args.self.now (vec_capacity c.self.inside.opens) c.self.view_is in
    let p = err_from_is_err_and c.from_residual.result c.from_residual.ensures.1 in
    rw (p.1, there) (subst (λ z. FailsAs {A = Unit {0}} {F = FidOf Walked} (Err z) (walked_in (Some c.in-Some.slot.now))) (sym p.2)
    c.in_err-open.ensures.faults)

pub returns-in_err-open-clause-fids : goal.returns-in_err-open-clause-fids
returns-in_err-open-clause-fids c =
    let there = was_at c.self.inside.fids c.args.fid c.in-Some.slot.now c.in-Some.ensures.value
    c.args.self.now (vec_capacity c.self.inside.opens) c.self.view_is in
    rw there (fails_alone (Unit {0}) c.in_err-open.field-0.0 (walked_in (Some c.in-Some.slot.now)) _ c.in_err-open.ensures.faults)

pub returns-in_err-open-clause-unchanged : goal.returns-in_err-open-clause-unchanged
returns-in_err-open-clause-unchanged c =
    let p = err_from_is_err_and c.from_residual.result c.from_residual.ensures.1 in
    rw p.1 (stays c.self.inside.fids c.args.fid c.in-Some.slot.now c.in-Some.ensures.value
    c.open.new.self _ (c.get_mut.follows.holds c.open.new.self)
    c.args.self.now (vec_capacity c.self.inside.opens) c.self.view_is c.in_err-open.ensures.unchanged)

pub add_open_fid-requires-clause-new : goal.add_open_fid-requires-clause-new
add_open_fid-requires-clause-new c =
    let is = opened_now c.in-Some.slot.now c.open.new.self c.in_ok-open.field-0 (λ w. opened_fid w c.args.mode c.args.open_number)
    c.in_ok-open.ensures.faults c.in_ok-open.ensures.entry in
    not_among c.self.inside.fids c.args.fid c.in-Some.slot.now c.in-Some.ensures.value
    c.self.inside.opens.items (vec_capacity c.self.inside.opens)
    c.self.invariant.1 is.0

pub add_open_fid-requires-clause-room : goal.add_open_fid-requires-clause-room
add_open_fid-requires-clause-room c =
    let is = opened_now c.in-Some.slot.now c.open.new.self c.in_ok-open.field-0 (λ w. opened_fid w c.args.mode c.args.open_number)
    c.in_ok-open.ensures.faults c.in_ok-open.ensures.entry in
    let place : length c.self.inside.opens.items < vec_capacity c.self.inside.opens =
    has_place c.self.inside.fids c.args.fid c.in-Some.slot.now c.in-Some.ensures.value
    c.self.inside.opens.items (vec_capacity c.self.inside.opens)
    c.self.invariant.1 is.0 in
    omega (arith, c.self.inside.opens.ok.0)

pub invariant_of-self-2 : goal.invariant_of-self-2
invariant_of-self-2 c =
    let is = opened_now c.in-Some.slot.now c.open.new.self c.in_ok-open.field-0 (λ w. opened_fid w c.args.mode c.args.open_number)
    c.in_ok-open.ensures.faults c.in_ok-open.ensures.entry in
    opened c.self.inside.fids c.args.fid c.in-Some.slot.now c.in-Some.ensures.value
    c.open.new.self _ (c.get_mut.follows.holds c.open.new.self)
    c.self.inside.opens.items (vec_capacity c.self.inside.opens) c.self.invariant is.0 is.1 c.add_open_fid.new.opens.items
    (vec_capacity c.add_open_fid.new.opens) c.add_open_fid.ensures.among c.add_open_fid.ensures.descending c.add_open_fid.ensures.capacity

pub returns-clause-faults : goal.returns-clause-faults
returns-clause-faults c =
    let there = was_at c.self.inside.fids c.args.fid c.in-Some.slot.now c.in-Some.ensures.value
    c.args.self.now (vec_capacity c.self.inside.opens) c.self.view_is in
    rw there (found_again c.in_ok-open.field-0 tt (walked_in (Some c.in-Some.slot.now)) c.in_ok-open.ensures.faults)

pub returns-clause-fids : goal.returns-clause-fids
returns-clause-fids c =
    let there = was_at c.self.inside.fids c.args.fid c.in-Some.slot.now c.in-Some.ensures.value
    c.args.self.now (vec_capacity c.self.inside.opens) c.self.view_is in
    let after = now_at c.self.inside.fids c.args.fid c.in-Some.slot.now c.in-Some.ensures.value
    c.open.new.self _ (c.get_mut.follows.holds c.open.new.self)
    c.args.self.now (vec_capacity c.self.inside.opens) c.self.view_is in
    rw there (if_ok (walked_in (Some c.in-Some.slot.now)) _ _ (λ x e. after ∙ ap (insert c.args.self.now.fids c.args.fid) e)
    c.in_ok-open.ensures.entry)
