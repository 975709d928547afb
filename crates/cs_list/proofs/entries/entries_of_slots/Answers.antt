use Rattle.std.proofs.Common.{◌∙◌, ap, length, refl, sym}
use Rattle.std.specs.FinMap.{get, get-empty}
use Rattle.cs_entries.specs.Tables.{entry_cmp}
use Rattle.cs_list.proofs.Slots.{none_left}
use Rattle.cs_list.proofs.entries.entries_of_slots.Goals as goal

pub loop-place-init : goal.loop-place-init
loop-place-init c = λ e.
    ap (λ m. get m e) c.new-held.ensures
    ∙ get-empty entry_cmp e
    ∙ sym (none_left c.args.entries.now c.args.slots.now (length c.args.entries.now) c.requires refl e)
