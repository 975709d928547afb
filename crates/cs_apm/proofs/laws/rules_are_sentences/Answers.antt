use Rattle.cs_apm.specs.Laws.Reasons.{needs_exactly}
use Rattle.cs_apm.proofs.Agreeing.{allowed_by_order, allowed_by_rules, order_says}
use Rattle.cs_apm.proofs.laws.rules_are_sentences.Goals as goal

pub returns : goal.returns
returns c =
    let m = c.args.micros.now in
    record {
      sentences = λ profile i j. needs_exactly m.ops m.syncs m.version profile i j;
      order = λ profile i j low. order_says m profile i j low;
      before = λ profile i j is. ((needs_exactly m.ops m.syncs m.version profile i j).0 is).before;
      sets = λ profile places. (allowed_by_rules m profile places, allowed_by_order m profile places);
    }
