use Rattle.std.proofs.Common.{◌≡◌, ℕ, ap, arith, fold, length, sym, ◌∙◌}
use Rattle.std.proofs.lemmas.List.{get_or_read}
use Rattle.std.specs.List.{range_with_len}
use Rattle.cs_apm.specs.Slots.{entry_at, slot_at}
use Rattle.cs_entries.specs.DirEntries.{root_home}
use Rattle.cs_different.specs.Shapes.{shape_of_slots, with_slot}
use Rattle.cs_different.proofs.Ranges.{fold_more}
use Rattle.cs_different.proofs.shapes.digest_slots.Goals as goal

pub loop-i-preserved : goal.loop-i-preserved
loop-i-preserved c =
    let es = c.args.entries.now in
    let ss = c.args.slots.now in
    let i = c.loop-i.i in
    let f : ℕ → ℕ → ℕ = λ digest k. with_slot (entry_at es k) (slot_at ss k) digest in
    c.mix_slot-digest.ensures
    ∙ ap (λ e. with_slot e (slot_at ss i) c.loop-i.digest)
    (get_or_read es i c.index-entries-i.result c.loop-i-test.true c.index-entries-i.is root_home)
    ∙ ap (λ d. f d i) c.loop-i.invariant ∙ sym (fold_more f 0 i)

pub returns : goal.returns
unfolding shape_of_slots
returns c =
    let all : c.loop-i.i ≡ length c.args.entries.now = omega arith in
    c.loop-i.invariant
    ∙ ap (λ n. fold (λ digest i. with_slot (entry_at c.args.entries.now i) (slot_at c.args.slots.now i) digest) 0 (range_with_len 0 n)) all
