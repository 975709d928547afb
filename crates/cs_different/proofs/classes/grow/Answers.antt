use Rattle.std.proofs.Common.{◌+◌, length, ap, sym, ◌∙◌, take, get_or, [], subst}
use Rattle.std.proofs.lemmas.List.{flat_map_more, take_more}
use Rattle.std.specs.BTreeMap.{get}
use Rattle.std.specs.List.{flat_map}
use Rattle.std.specs.Ordering.{nat_cmp}
use Rattle.cs_different.specs.Classing.{AreGrown, extensions}
use Rattle.cs_sets.specs.Rows.{bit_in, needed_in}
use Rattle.cs_different.specs.Seen.{none_seen, see}
use Rattle.cs_different.specs.declared.classes.Class.{Class}
use Rattle.cs_different.proofs.Leading.{none_grown, none_met_yet}
use Rattle.cs_different.proofs.classes.grow.Goals as goal

pub loop-class-init : goal.loop-class-init
loop-class-init c =
    let needs = needed_in c.args.needed.now in
    let n = length c.args.needed.now in
    record {
      grown = none_grown (see (bit_in c.args.wanted.now)) none_seen needs n (c.args.place + 1) c.new-kept.result.items
          c.new-kept.ensures.items;
      met = none_met_yet n (get nat_cmp c.new-met.result) c.new-kept.result.items c.new-kept.ensures.items;
    }

pub loop-class-preserved : goal.loop-class-preserved
loop-class-preserved c =
    let act = see (bit_in c.args.wanted.now) in
    let needs = needed_in c.args.needed.now in
    let n = length c.args.needed.now in
    let f = extensions needs n c.args.place in
    let i = c.loop-class.class-index in
    let level = c.args.level.now in
    let d : Class = record { members = record { words = [] }; common = record { words = [] } } in
    let class = get_or level i d in
    record {
      grown = subst (λ v. AreGrown act none_seen needs n (c.args.place + 1) v c.keep_choices.new.kept.items)
          (flat_map_more f [] (take i level) class ∙ ap (flat_map f) (sym (take_more level i d c.loop-class-test.true)))
          (c.in_ok-keep_choices.ensures.grown (flat_map f (take i level)) c.loop-class.invariant.grown);
      met = c.in_ok-keep_choices.ensures.met;
    }
