use Rattle.std.proofs.Common.{sym, ap, ◌∙◌, cond, Some, subst}
use Rattle.std.specs.BTreeMap.{get, is_at}
use Rattle.std.specs.Ordering.{nat_cmp}
use Rattle.cs_different.specs.Classing.{AreMet}
use Rattle.cs_different.proofs.Leading.{met_more}
use Rattle.cs_different.proofs.classes.keep.Goals as goal

pub returns-clause-met : goal.returns-clause-met
returns-clause-met c =
    let index = get nat_cmp c.args.met.now in
    subst (AreMet c.args.end (get nat_cmp c.insert.new.self)) (sym c.in_ok-push.ensures.items)
    (met_more c.args.end index (get nat_cmp c.insert.new.self) c.args.kept.now.items c.args.class.now c.len.result c.requires.met
    (λ q. c.in_ok-insert.ensures.updates.0 q
    ∙ ap (λ d. cond (is_at (nat_cmp d) q) (Some c.len.result) (index q)) c.in-Some.ensures.digest))
