use Rattle.std.proofs.Common.{◌≡◌, map, [], ◌∷◌, ◌++◌, true, sym, ap, ◌∙◌, rules}
use Rattle.std.proofs.lemmas.List.{map-append, nil_from_length}
use Rattle.std.proofs.lemmas.Result.{err_from_is_err_and}
use Rattle.std.specs.Prelude.{if◌then◌else◌, is_ok}
use Rattle.serde_json.specs.View.{items_view, view}
use Rattle.cs_trace_lines.specs.Kept.{part_value}
use Rattle.cs_trace_lines.specs.Lines.{parts_of}
use Rattle.cs_trace_lines.proofs.Parting.{after, after_none, after_all, after_next, none_after}
use Rattle.cs_trace_lines.proofs.parts.parts_of.Goals as goal

pub loop-value-init : goal.loop-value-init
loop-value-init c =
    ap (λ ps. after (map part_value ps) (parts_of c.args.version (items_view c.into_iter-value-iterator.result.rest.items)))
    c.new-parts.ensures.items
    ∙ after_none _ ∙ ap (λ vs. parts_of c.args.version (items_view vs)) c.into_iter-value-iterator.ensures.into_iter_gives.0

pub returns-in_err-part : goal.returns-in_err-part
returns-in_err-part c =
    let p = err_from_is_err_and c.from_residual.result c.from_residual.ensures.1 in
    let front = map part_value c.loop-value.parts.items in
    let steps = ap (λ vs. after front (parts_of c.args.version (items_view vs))) c.in-Some.ensures.steps.0 in
    rw (p.1, p.2) (λ syntax. sym c.loop-value.invariant ∙ steps
    ∙ none_after c.args.version front (view c.in-Some.value) (items_view c.next.new.self.rest.items) (c.in_err-part.ensures syntax))

pub loop-value-preserved : goal.loop-value-preserved
loop-value-preserved c =
    let v = c.args.version in
    let rest = c.next.new.self.rest.items in
    let front = map part_value c.loop-value.parts.items in
    let is : is_ok c.push.result ≡ true = search rules in
    let pushed : c.push.new.self.items ≡ c.loop-value.parts.items ++ c.in_ok-part.part ∷ [] =
    c.push.ensures.items ∙ ap (λ b. if b then c.loop-value.parts.items ++ c.in_ok-part.part ∷ [] else c.loop-value.parts.items) is in
    ap (λ ps. after (map part_value ps) (parts_of v (items_view rest))) pushed
    ∙ ap (λ ps. after ps (parts_of v (items_view rest))) (map-append part_value c.loop-value.parts.items (c.in_ok-part.part ∷ []))
    ∙ after_next v front (view c.in-Some.value) (items_view rest) (part_value c.in_ok-part.part) c.in_ok-part.ensures
    ∙ ap (λ vs. after front (parts_of v (items_view vs))) (sym c.in-Some.ensures.steps.0)
    ∙ c.loop-value.invariant

pub returns : goal.returns
returns c =
    let rest = c.loop-value.value-iterator.rest in
    let front = map part_value c.loop-value.parts.items in
    let nothing : rest.items ≡ [] = nil_from_length rest.items (sym rest.ok.0 ∙ c.in-None.ensures.steps.0) in
    sym c.loop-value.invariant ∙ ap (λ vs. after front (parts_of c.args.version (items_view vs))) nothing ∙ after_all front
