use Rattle.std.proofs.Common.{◌∙◌, Some, ap, sym, not, true≢false, vec_capacity}
use Rattle.std.specs.FinMap.{remove}
use Rattle.std.specs.Option.{ok_or}
use Rattle.indexmap.specs.IndexMap.{spare}
use Rattle.cs_fids.specs.Tables.{Fids}
use Rattle.cs_fids.specs.declared.fault.FidFault.TheVariants.{Unknown}
use Rattle.cs_fids.proofs.Keeping.{lent_alike}
use Rattle.cs_fids.proofs.Maps.{found_at, get_is, taken}
use Rattle.cs_fids.proofs.Results.{none_lent}
use Rattle.cs_fids.proofs.Taking.{is_there, without_one_open, without_one_walked}
use Rattle.cs_fids.proofs.table.FidTable.take_any.Goals as goal
use Rattle.cs_fids.proofs.table.FidTable.take_any.Goals.{then-is_some, else-is_some}

pub unreachable-requires : goal.unreachable-requires
unreachable-requires c =
    let none =
    found_at c.self.inside.fids.entries (spare c.self.inside.fids) (vec_capacity c.self.inside.opens) c.args.self.now c.args.fid _
    c.self.view_is c.in_default.ensures.value in
    absurd (true≢false (sym (c.is_none.ensures ∙ ap not c.if-is_none.false)
    ∙ none_lent c.entry_of.result (c.entry_of.ensures.value ∙ none)))

pub remove_open_fid-requires-clause-there : goal.remove_open_fid-requires-clause-there
remove_open_fid-requires-clause-there c =
    is_there c.self.inside.fids.entries c.self.inside.opens.items (vec_capacity c.self.inside.opens) c.self.invariant c.args.fid
    c.into_entry-entry.result (ap Some c.into_entry-entry.ensures ∙ c.in-Some.ensures.value)
    (sym (lent_alike c.into_entry-entry.result c.as_opened.result c.as_opened.ensures) ∙ sym c.if-is_some.ensures)

pub invariant_of-self : goal.invariant_of-self
invariant_of-self c =
    without_one_open c.self.inside.fids.entries c.self.inside.opens.items (vec_capacity c.self.inside.opens) c.self.invariant c.args.fid
    c.into_entry-entry.result (ap Some c.into_entry-entry.ensures ∙ c.in-Some.ensures.value) c.swap_remove.new.self.entries
    c.in-Some.ensures.updates.0 c.in-Some.ensures.unique c.remove_open_fid.new.opens.items (vec_capacity c.remove_open_fid.new.opens)
    c.remove_open_fid.ensures.among c.remove_open_fid.ensures.descending c.remove_open_fid.ensures.capacity

pub invariant_of-self-else-is_some : goal.invariant_of-self-else-is_some
invariant_of-self-else-is_some c =
    without_one_walked c.self.inside.fids.entries c.self.inside.opens.items (vec_capacity c.self.inside.opens) c.self.invariant c.args.fid
    c.into_entry-entry.result (ap Some c.into_entry-entry.ensures ∙ c.in-Some.ensures.value) c.swap_remove.new.self.entries
    c.in-Some.ensures.updates.0 c.in-Some.ensures.unique
    (sym (lent_alike c.into_entry-entry.result c.as_opened.result c.as_opened.ensures) ∙ sym c.if-is_some.ensures)

pub returns-clause-value : goal.returns-clause-value
returns-clause-value c =
    rw (← c.self.view_is)
    (ap (λ found. ok_or found Unknown)
    (ap Some c.into_entry-entry.ensures ∙ c.in-Some.ensures.value ∙ sym (get_is c.args.fid c.self.inside.fids.entries)))

pub returns-clause-fids : goal.returns-clause-fids
returns-clause-fids c =
    let removed =
    taken c.args.fid c.self.inside.fids.entries c.swap_remove.new.self.entries c.in-Some.ensures.updates.0
    ∙ ap (λ (t : Fids). remove t.fids c.args.fid) c.self.view_is in
    elim c.if-is_some.branch [
      | then-is_some w ↦ ap (λ (t : Fids). t.fids) w.self-is ∙ removed
      | else-is_some w ↦ ap (λ (t : Fids). t.fids) w.self-is ∙ removed
    ]
