use Rattle.cs_entries.specs.DirEntries.{root_home}
use Rattle.cs_entries.specs.Laws.Records.{entry_exact, entry_total}
use Rattle.cs_apm.specs.Laws.Ascents.{found_between, searchable}
use Rattle.std.proofs.Common.{subst, sym}
use Rattle.std.specs.List.{Contains}
use Rattle.cs_apm.specs.Slots.{IsPlace}
use Rattle.cs_apm.proofs.places.place_of_entry.Goals as goal

pub returns : goal.returns
returns c =
    subst (IsPlace c.args.entries.now c.in-Ok.place) c.in_ok-entry.ensures
    (c.in-Ok.ensures.bound, entry_exact _ _ (c.in-Ok.ensures.ok root_home))

pub unreachable-requires : goal.unreachable-requires
unreachable-requires c =
    let es = c.args.entries.now in
    let entry = c.in_ok-entry.entry in
    absurd (found_between entry_total entry_exact es entry c.in-Err.field-0
    (c.in-Err.ensures.position (searchable entry_total entry_exact es entry c.requires.ascending))
    (subst (Contains es) (sym c.in_ok-entry.ensures) c.requires.there))
