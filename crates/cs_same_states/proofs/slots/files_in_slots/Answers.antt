use Rattle.std.proofs.Common.{◌≡◌, length, sym, ap, ◌∙◌, subst}
use Rattle.std.specs.Prelude.{fold}
use Rattle.cs_apm.proofs.Marking.{put_back}
use Rattle.cs_same_states.specs.Slots.{AreFlagged, flagged}
use Rattle.cs_same_states.proofs.Flags.{all_as_many, flags_are}
use Rattle.cs_same_states.proofs.slots.files_in_slots.Goals as goal

pub returns : goal.returns
returns c =
    let flags = c.in_ok-flags.flags.items in
    let slots = c.args.slots.now in
    let new : c.flag_all.new.flags ≡ fold flagged flags slots =
    c.flag_all.ensures ∙ ap (λ f. fold flagged f slots) c.deref_mut.ensures.value in
    let back =
    put_back c.flag_all.new.flags flags c.in_ok-flags.flags.len (ap length new ∙ all_as_many flags slots) c.in_ok-flags.flags.ok.0 in
    subst (AreFlagged slots c.args.count) (sym (back ∙ new))
    (flags_are flags slots c.args.count (sym c.in_ok-flags.flags.ok.0 ∙ c.in_ok-flags.ensures.len))
