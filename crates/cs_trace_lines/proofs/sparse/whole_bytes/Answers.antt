use Rattle.std.proofs.Common.{◌≡◌, ◌+◌, ◌≤◌, length, map, take, fold, replicate, sym, ap, ◌∙◌, subst}
use Rattle.std.proofs.lemmas.List.{length-replicate, take_all}
use Rattle.cs_trace_lines.specs.Kept.{part_value}
use Rattle.cs_trace_lines.specs.Sparse.{end_of, laid_out, with_part}
use Rattle.cs_trace_lines.proofs.Apart.{length-with_part}
use Rattle.cs_trace_lines.proofs.LayingOut.{end_at, laid_more, put_back}
use Rattle.cs_trace_lines.proofs.sparse.whole_bytes.Goals as goal

pub put_part-requires : goal.put_part-requires
put_part-requires c =
    subst (λ n. end_of (part_value c.part-item.result) ≤ n)
    (sym (ap length c.deref_mut.ensures.value ∙ c.loop-part.invariant.long))
    (end_at part_value c.args.parts.now 0 c.args.length c.loop-part.part-index c.part-item.result c.requires c.loop-part-test.true
    c.part-item.is)

pub loop-part-preserved : goal.loop-part-preserved
loop-part-preserved c =
    let old = c.loop-part.file.items in
    let part = part_value c.part-item.result in
    let left = c.put_part.new.file in
    let low : end_of part ≤ length old =
    subst (λ n. end_of part ≤ n) (sym c.loop-part.invariant.long)
    (end_at part_value c.args.parts.now 0 c.args.length c.loop-part.part-index c.part-item.result c.requires c.loop-part-test.true
    c.part-item.is) in
    let new : left ≡ with_part old part = c.put_part.ensures ∙ ap (λ bytes. with_part bytes part) c.deref_mut.ensures.value in
    let same : length left ≡ length old = ap length new ∙ length-with_part old part low in
    let back = put_back left old c.loop-part.file.len same c.loop-part.file.ok.0 in
    record {
      laid =
          back ∙ new ∙ ap (λ bytes. with_part bytes part) c.loop-part.invariant.laid
          ∙ sym (laid_more part_value c.args.parts.now c.loop-part.part-index c.part-item.result (replicate c.args.length 0)
          c.loop-part-test.true c.part-item.is);
      long = ap length back ∙ same ∙ c.loop-part.invariant.long;
    }

pub returns : goal.returns
unfolding laid_out
returns c =
    c.loop-part.invariant.laid
    ∙ ap (λ ps. fold with_part (replicate c.args.length 0) (map part_value ps))
    (take_all c.loop-part.part-index c.args.parts.now c.loop-part-test.false)
