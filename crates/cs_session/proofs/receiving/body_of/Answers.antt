use Rattle.std.proofs.Common.{arith, lit<}
use Rattle.std.specs.declared.borrow.CowStr.TheVariants.{Borrowed}
use Rattle.cs_wire.specs.Fields.{bytes_of_field}
use Rattle.cs_wire.specs.Messages.{qid_of}
use Rattle.cs_session.proofs.Fitting.{fits-read, fits-version, fits-walk, open_length, qid_length}
use Rattle.cs_session.proofs.receiving.body_of.Goals as goal

pub returns-in-Version-clause-fits : goal.returns-in-Version-clause-fits
returns-in-Version-clause-fits c =
    λ msize _ _. fits-version msize c.in-Version.msize (Borrowed c.version_text.result) (omega arith) c.version_text.ensures.shown

pub returns-in-Attach-clause-fits : goal.returns-in-Attach-clause-fits
returns-in-Attach-clause-fits c = λ msize _ _. record {
  fields = c.qid_in_range.ensures.fits;
  small = omega (arith, qid_length (qid_of c.qid_in_range.result));
}

pub returns-in-Walk-clause-fits : goal.returns-in-Walk-clause-fits
returns-in-Walk-clause-fits c = λ msize _ fits. fits-walk msize c.into_qids.result (record {
  few = rw (← c.into_qids.ensures.value) at (rw c.in-Walk.is at fits);
  each = c.into_qids.ensures.fit;
})

pub returns-in-Open-clause-fits : goal.returns-in-Open-clause-fits
returns-in-Open-clause-fits c = λ msize _ _. record {
  fields = (c.qid_in_range-in-Open.ensures.fits, lit< tt);
  small = omega (arith, open_length (qid_of c.qid_in_range-in-Open.result, 0));
}

pub returns-in-Create-clause-fits : goal.returns-in-Create-clause-fits
returns-in-Create-clause-fits c = λ msize _ _. record {
  fields = (c.qid_in_range-in-Create.ensures.fits, lit< tt);
  small = omega (arith, open_length (qid_of c.qid_in_range-in-Create.result, 0));
}

pub returns-in-Read-clause-fits : goal.returns-in-Read-clause-fits
returns-in-Read-clause-fits c =
    λ msize agreed fits. fits-read msize c.into_vec.result agreed (rw (← c.into_vec.ensures) at (rw c.in-Read.is at fits))

pub returns-in-Write-clause-fits : goal.returns-in-Write-clause-fits
unfolding bytes_of_field
returns-in-Write-clause-fits c = λ msize _ _. record { fields = omega arith; small = omega arith }

pub returns-in-Clunk-clause-fits : goal.returns-in-Clunk-clause-fits
unfolding bytes_of_field
returns-in-Clunk-clause-fits c = λ msize _ _. record { fields = tt; small = omega arith }

pub returns-in-Remove-clause-fits : goal.returns-in-Remove-clause-fits
unfolding bytes_of_field
returns-in-Remove-clause-fits c = λ msize _ _. record { fields = tt; small = omega arith }

pub returns-in-Stat-clause-fits : goal.returns-in-Stat-clause-fits
returns-in-Stat-clause-fits c = λ msize _ _. record {
  fields = c.into_stat.ensures.fits.fits;
  small = omega (arith, c.into_stat.ensures.fits.small);
}

pub returns-in-Wstat-clause-fits : goal.returns-in-Wstat-clause-fits
unfolding bytes_of_field
returns-in-Wstat-clause-fits c = λ msize _ _. record { fields = tt; small = omega arith }

pub returns-in-Flush-clause-fits : goal.returns-in-Flush-clause-fits
unfolding bytes_of_field
returns-in-Flush-clause-fits c = λ msize _ _. record { fields = tt; small = omega arith }

pub returns-in-Error-clause-fits : goal.returns-in-Error-clause-fits
returns-in-Error-clause-fits c = λ msize _ _. c.error_body.ensures.fits msize

pub returns-in-Memory-clause-fits : goal.returns-in-Memory-clause-fits
returns-in-Memory-clause-fits c = λ msize _ _. c.error_body-in-Memory.ensures.fits msize
