use Rattle.std.proofs.Common.{◌∙◌, arith, length-set}
use Rattle.std.proofs.lemmas.Option.{slice_get_within}
use Rattle.cs_journal.proofs.Audits.{first_rest, rests_first}
use Rattle.cs_journal.proofs.auditing.receipts_by_number.Goals as goal

pub loop-number-preserved : goal.loop-number-preserved
loop-number-preserved c = record {
  rests = rests_first (λ rest. rest.now) c.args.passes.now c.loop-number.all c.loop-number.number c.receipts_of.result
      c.loop-number.invariant.rests
      (first_rest c.args.passes.now c.loop-number.number c.receipts_of.result.now c.receipts_of.ensures.value
      c.receipts_of.ensures.ascending);
  many = length-set c.loop-number.all c.loop-number.number c.receipts_of.result ∙ c.loop-number.invariant.many;
}

pub returns-clause-rests : goal.returns-clause-rests
returns-clause-rests c number rest there =
    c.loop-number.invariant.rests number rest
    (omega (arith, slice_get_within c.loop-number.all number rest there, c.loop-number.invariant.many, c.loop-number-test.false)) there
