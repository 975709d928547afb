use Rattle.std.proofs.Common.{sym, ap, ◌∙◌}
use Rattle.std.specs.BTreeMap.{get}
use Rattle.std.specs.Ordering.{nat_cmp}
use Rattle.cs_different.proofs.Leading.{new_class}
use Rattle.cs_different.proofs.classes.new_digest.Goals as goal

pub returns-in_default-clause-new : goal.returns-in_default-clause-new
returns-in_default-clause-new c =
    new_class c.args.end (get nat_cmp c.args.met.now) c.args.kept.now c.args.class.now c.requires.met
    (ap (get nat_cmp c.args.met.now) (sym c.digest_row-digest.ensures) ∙ sym c.in_default.ensures.value)
