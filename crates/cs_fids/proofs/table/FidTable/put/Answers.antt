use Rattle.std.proofs.Common.{◌∙◌, ◌<◌, ap, arith, length, subst, sym, vec_capacity}
use Rattle.std.specs.FinMap.{insert}
use Rattle.indexmap.specs.IndexMap.{spare}
use Rattle.cs_fids.specs.Tables.{Fids, fid_at}
use Rattle.cs_fids.proofs.Keeping.{lent_alike}
use Rattle.cs_fids.proofs.Putting.{has_place, inserts, with_one_open, with_one_walked}
use Rattle.cs_fids.proofs.Results.{not_lent}
use Rattle.cs_fids.proofs.table.FidTable.put.Goals as goal
use Rattle.cs_fids.proofs.table.FidTable.put.Goals.{then-is_open, else-is_open}

pub add_open_fid-requires-clause-room : goal.add_open_fid-requires-clause-room
add_open_fid-requires-clause-room c =
    let place : length c.self.inside.opens.items < vec_capacity c.self.inside.opens =
    has_place c.self.inside.fids.entries c.self.inside.opens.items (vec_capacity c.self.inside.opens) (spare c.self.inside.fids)
    c.self.invariant c.args.fid (subst (λ (t : Fids). 0 < t.room) (sym c.self.view_is) c.requires.room) in
    omega (arith, c.self.inside.opens.ok.0)

pub invariant_of-self : goal.invariant_of-self
invariant_of-self c =
    with_one_open c.self.inside.fids.entries c.self.inside.opens.items (vec_capacity c.self.inside.opens) (spare c.self.inside.fids)
    c.self.invariant c.args.fid (subst (λ (t : Fids). 0 < t.room) (sym c.self.view_is) c.requires.room) c.requires.named c.args.entry
    c.new.result c.new.ensures c.insert.new.self.entries c.in-Ok.ensures.updates.0 c.in-Ok.ensures.unique
    (sym (lent_alike c.args.entry c.as_opened.result c.as_opened.ensures) ∙ sym c.if-is_open.ensures) c.add_open_fid.new.opens.items
    (vec_capacity c.add_open_fid.new.opens) c.add_open_fid.ensures.among c.add_open_fid.ensures.descending c.add_open_fid.ensures.capacity

pub invariant_of-self-else-is_open : goal.invariant_of-self-else-is_open
invariant_of-self-else-is_open c =
    with_one_walked c.self.inside.fids.entries c.self.inside.opens.items (vec_capacity c.self.inside.opens) (spare c.self.inside.fids)
    c.self.invariant c.args.fid (subst (λ (t : Fids). 0 < t.room) (sym c.self.view_is) c.requires.room) c.requires.named c.args.entry
    c.new.result c.new.ensures c.insert.new.self.entries c.in-Ok.ensures.updates.0 c.in-Ok.ensures.unique
    (sym (lent_alike c.args.entry c.as_opened.result c.as_opened.ensures) ∙ sym c.if-is_open.ensures)
    (ap (λ (t : Fids). fid_at t c.args.fid) c.self.view_is ∙ sym c.entry_of.ensures.value
    ∙ not_lent c.entry_of.result (sym c.if-is_some.ensures))

pub returns-clause-fids : goal.returns-clause-fids
returns-clause-fids c =
    let made =
    inserts c.self.inside.fids.entries c.self.inside.opens.items (vec_capacity c.self.inside.opens) (spare c.self.inside.fids)
    c.self.invariant c.args.fid (subst (λ (t : Fids). 0 < t.room) (sym c.self.view_is) c.requires.room) c.requires.named c.args.entry
    c.new.result c.new.ensures c.insert.new.self.entries c.in-Ok.ensures.updates.0 c.in-Ok.ensures.unique
    ∙ ap (λ (t : Fids). insert t.fids c.args.fid c.args.entry) c.self.view_is in
    elim c.if-is_open.branch [
      | then-is_open w ↦ ap (λ (t : Fids). t.fids) w.self-is ∙ made
      | else-is_open w ↦ ap (λ (t : Fids). t.fids) w.self-is ∙ made
    ]
