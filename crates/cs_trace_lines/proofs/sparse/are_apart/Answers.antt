use Rattle.std.proofs.Common.{◌+◌, map, drop, sym, ap, ◌∙◌}
use Rattle.cs_trace_lines.specs.Kept.{part_value}
use Rattle.cs_trace_lines.specs.Sparse.{are_apart}
use Rattle.cs_trace_lines.proofs.Apart.{apart_next, map_from, none_apart}
use Rattle.cs_trace_lines.proofs.sparse.are_apart.Goals as goal

pub returns-then-not-lies_between : goal.returns-then-not-lies_between
returns-then-not-lies_between c =
    let ps = c.args.parts.now in
    let k = c.loop-part.part-index in
    let here = map_from part_value ps k c.part-item.result c.loop-part-test.true c.part-item.is in
    sym (sym c.loop-part.invariant ∙ ap (are_apart c.loop-part.end c.args.length) here
    ∙ none_apart c.loop-part.end c.args.length (part_value c.part-item.result) (map part_value (drop (k + 1) ps))
    (sym c.lies_between.ensures ∙ c.if-not-lies_between.true))

pub loop-part-preserved : goal.loop-part-preserved
loop-part-preserved c =
    let ps = c.args.parts.now in
    let k = c.loop-part.part-index in
    let here = map_from part_value ps k c.part-item.result c.loop-part-test.true c.part-item.is in
    sym (sym c.loop-part.invariant ∙ ap (are_apart c.loop-part.end c.args.length) here
    ∙ apart_next c.loop-part.end c.args.length (part_value c.part-item.result) (map part_value (drop (k + 1) ps))
    (sym c.lies_between.ensures ∙ c.if-not-lies_between.false)
    ∙ ap (λ count. are_apart (c.part-item.result.at + count) c.args.length (map part_value (drop (k + 1) ps)))
    (sym (c.len.ensures ∙ c.part-item.result.bytes.ok.0)))
