use Rattle.std.proofs.Common.{◌+◌, ◌/◌, ◌%◌, sym, ap, subst, refl, ◌∙◌, Some, IsSome, cond}
use Rattle.std.specs.Option.{option_copied_mut}
use Rattle.std.specs.Ordering.{nat_cmp, is_eq}
use Rattle.std.specs.Cmp.{nat_cmp_total}
use Rattle.std.specs.BTreeMap.{get}
use Rattle.std.proofs.lemmas.Map.Views.{get-entries_below}
use Rattle.cs_overlay.proofs.Patching.{cut_none, cut_some}
use Rattle.cs_overlay.proofs.patched.truncate_blocks.Goals as goal

pub returns-in-Some-clause-ok : goal.returns-in-Some-clause-ok
returns-in-Some-clause-ok c =
    λ k. cut_some (get nat_cmp c.args.blocks.now) (get nat_cmp c.split_off.new.self) (c.args.size / 4096) (c.args.size % 4096) k
    (get-entries_below nat_cmp_total c.args.blocks.now c.split_off.new.self (c.args.size / 4096 + 1) k c.in_ok-split_off.ensures.below)
    c.in-Some.block.now
    (get nat_cmp (c.get_mut.follows.lender c.truncate.new.self)) (sym c.in-Some.ensures.value)
    (((c.get_mut.follows.holds c.truncate.new.self).3 (subst IsSome c.in-Some.ensures.value refl)).0 k
    ∙ ap (λ w. cond (is_eq (nat_cmp (c.args.size / 4096) k)) (Some w) (get nat_cmp c.split_off.new.self k)) c.truncate.ensures)

pub returns-in_default-clause-ok : goal.returns-in_default-clause-ok
returns-in_default-clause-ok c = let h = c.get_mut.follows.holds-at-none in
    λ k. ap (λ m. get nat_cmp m k) h ∙ cut_none (get nat_cmp c.args.blocks.now) (get nat_cmp c.split_off.new.self) (c.args.size / 4096)
    (c.args.size % 4096) k
    (get-entries_below nat_cmp_total c.args.blocks.now c.split_off.new.self (c.args.size / 4096 + 1) k c.in_ok-split_off.ensures.below)
    (sym c.get_mut.ensures.value ∙ ap option_copied_mut c.in_default.is)
