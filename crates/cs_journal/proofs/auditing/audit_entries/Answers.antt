use Rattle.std.proofs.Common.{◌≡◌, ◌∙◌, ◌<◌, arith, length, length-set, sym, Some}
use Rattle.std.proofs.lemmas.Option.{slice_get-get_or}
use Rattle.std.specs.Prelude.{slice_get}
use Rattle.cs_journal.proofs.Audits.{first_fault, found_for, next_rest, rests_more, told_more}
use Rattle.cs_journal.proofs.auditing.audit_entries.Goals as goal

pub receipts_from-rest-requires : goal.receipts_from-rest-requires
receipts_from-rest-requires c =
    (c.loop-place.invariant.rests c.pass-number.result _
    (slice_get-get_or c.loop-place.rests c.pass-number.result c.index-rests-number.result
    (omega (arith, c.pass-number.ensures.few, c.loop-place.invariant.many)))).ascending

pub returns-in-Err : goal.returns-in-Err
returns-in-Err c =
    let k = c.loop-place.place in
    let e = c.entry-entry.result in
    let n = c.pass-number.result in
    let within : n < length c.loop-place.rests = omega (arith, c.pass-number.ensures.few, c.loop-place.invariant.many) in
    let rest =
    next_rest (λ r. r.now) c.args.passes.now c.loop-place.rests n k c.index-rests-number.result c.receipts_from-rest.result.now
    c.loop-place.invariant.rests within c.receipts_from-rest.ensures.same c.receipts_from-rest.ensures.ascending in
    let found =
    found_for c.args.passes.now n k e c.receipts_from-rest.result.now _ rest c.pass-number.ensures.value c.first_if_at.ensures in
    let there : slice_get c.args.journal.now.items k ≡ Some e = c.entry-entry.ensures in
    first_fault c.args.passes.now c.args.journal.now.items k e _ c.in-Err.fault c.loop-place.invariant.told there found c.in-Err.ensures

pub loop-place-preserved : goal.loop-place-preserved
loop-place-preserved c =
    let k = c.loop-place.place in
    let e = c.entry-entry.result in
    let n = c.pass-number.result in
    let within : n < length c.loop-place.rests = omega (arith, c.pass-number.ensures.few, c.loop-place.invariant.many) in
    let rest =
    next_rest (λ r. r.now) c.args.passes.now c.loop-place.rests n k c.index-rests-number.result c.receipts_from-rest.result.now
    c.loop-place.invariant.rests within c.receipts_from-rest.ensures.same c.receipts_from-rest.ensures.ascending in
    let found =
    found_for c.args.passes.now n k e c.receipts_from-rest.result.now _ rest c.pass-number.ensures.value c.first_if_at.ensures in
    let there : slice_get c.args.journal.now.items k ≡ Some e = c.entry-entry.ensures in
    record {
      told = told_more c.args.passes.now c.args.journal.now.items k e c.loop-place.invariant.told there (sym found ∙ c.in-Ok.ensures);
      rests = rests_more (λ r. r.now) c.args.passes.now c.loop-place.rests n k c.receipts_from-rest.result
          c.loop-place.invariant.rests rest;
      many = length-set c.loop-place.rests n c.receipts_from-rest.result ∙ c.loop-place.invariant.many;
    }
