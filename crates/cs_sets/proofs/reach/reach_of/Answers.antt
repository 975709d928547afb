use Rattle.std.proofs.Common.{subst, sym, ap, ◌∙◌, length, ◌+◌}
use Rattle.std.proofs.lemmas.List.{length_push}
use Rattle.cs_sets.specs.Rows.{AreReach}
use Rattle.cs_sets.proofs.Reaching.{reach_more}
use Rattle.cs_sets.proofs.reach.reach_of.Goals as goal

pub loop-k-preserved : goal.loop-k-preserved
loop-k-preserved c =
    let e = c.in_ok-push.ensures.items in
    record {
      long = ap length e ∙ length_push c.loop-k.reach.items c.reach_row-row.result ∙ ap (λ n. n + 1) c.loop-k.invariant.long;
      reached = subst (λ v. AreReach c.args.rows.now v (c.loop-k.k + 1)) (sym e)
          (reach_more c.args.rows.now c.loop-k.reach.items c.reach_row-row.result c.loop-k.k c.loop-k.invariant.long
          c.loop-k.invariant.reached c.reach_row-row.ensures);
    }
