use Rattle.std.proofs.Common.{◌≡◌, ◌<◌, ◌++◌, [], ap, arith, length, subst, sym, ◌∙◌}
use Rattle.std.specs.FinMap.{from_entries, get-from_entries, len-empty}
use Rattle.std.specs.Option.{option_to_list}
use Rattle.cs_entries.specs.declared.node.Node.TheVariants.{Directory}
use Rattle.cs_entries.specs.DirEntries.{root_home}
use Rattle.cs_entries.specs.Tables.{entry_cmp}
use Rattle.cs_entries.specs.Laws.Records.{entry_total}
use Rattle.cs_apm.specs.Held.{held_of}
use Rattle.cs_apm.specs.Slots.{Slot}
use Rattle.cs_apm.proofs.Holding.{IsNoted, none_noted, noted_all, noted_more, nothing_left}
use Rattle.cs_apm.proofs.held.held_by_pairs.Goals as goal

pub loop-entry-init : goal.loop-entry-init
loop-entry-init c =
    let all = c.args.pairs.items in
    subst (λ es. IsNoted all all (from_entries {R = entry_cmp} es)) (sym c.new-held.ensures.empty)
    (none_noted all (from_entries {R = entry_cmp} []) (λ e. get-from_entries entry_total [] e) (len-empty entry_cmp Slot))

pub loop-entry-preserved : goal.loop-entry-preserved
loop-entry-preserved c =
    noted_more c.args.pairs.items c.pop.new.self.items c.loop-entry.pairs.items (held_of c.loop-entry.held) (held_of c.hold.new.held)
    c.in-Some.entry c.in-Some.node c.loop-entry.invariant
    (c.pop.ensures.items ∙ ap (λ o. c.pop.new.self.items ++ option_to_list o) c.in-Some.is)
    c.in_ok-hold.ensures

pub returns-clause-held : goal.returns-clause-held
returns-clause-held c e =
    let left = c.loop-entry.pairs in
    let none = λ (some : 0 < left.len). c.in_default.not-Some _ (c.pop.ensures.value (root_home, Directory 0) some) in
    let many = left.ok.0 in
    let empty : length left.items ≡ 0 = omega (arith, none, many) in
    noted_all c.args.pairs.items left.items (held_of c.loop-entry.held) c.loop-entry.invariant (nothing_left left.items empty) e
