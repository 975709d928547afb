use Rattle.std.proofs.Common.{IsSome, refl, sym, subst}
use Rattle.std.specs.BTreeMap.{get}
use Rattle.std.specs.Ordering.{nat_cmp}
use Rattle.cs_overlay.proofs.Owning.{are_longer}
use Rattle.cs_overlay.proofs.growing.lengthen_block.Goals as goal

pub returns-in_err-lengthen-clause-longer : goal.returns-in_err-lengthen-clause-longer
returns-in_err-lengthen-clause-longer c =
    are_longer (get nat_cmp c.args.blocks.now) (get nat_cmp (c.get_mut.follows.lender c.lengthen.new.self)) c.args.index c.lengthen.new.self
    ((c.get_mut.follows.holds c.lengthen.new.self).3 (subst IsSome c.in-Some.ensures.value refl)).0 c.in-Some.block.now
    (sym c.in-Some.ensures.value) c.lengthen.ensures.longer

pub returns-in_ok-lengthen-clause-longer : goal.returns-in_ok-lengthen-clause-longer
returns-in_ok-lengthen-clause-longer c =
    are_longer (get nat_cmp c.args.blocks.now) (get nat_cmp (c.get_mut.follows.lender c.lengthen.new.self)) c.args.index c.lengthen.new.self
    ((c.get_mut.follows.holds c.lengthen.new.self).3 (subst IsSome c.in-Some.ensures.value refl)).0 c.in-Some.block.now
    (sym c.in-Some.ensures.value) c.lengthen.ensures.longer
