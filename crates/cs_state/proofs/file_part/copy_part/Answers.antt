use Rattle.std.proofs.Common.{◌≡◌, ◌<◌, ◌-◌, ap, ◌∙◌, arith, take, drop, max, get_or}
use Rattle.cs_state.proofs.Showing.{part_copied, resized_at}
use Rattle.cs_state.proofs.file_part.copy_part.Goals as goal

pub returns-clause-part : goal.returns-clause-part
returns-clause-part c =
    let bytes = c.args.bytes.now in
    let copied = c.in_ok-part.part.items in
    let is : copied ≡ take (max c.min-end.result c.min-from.result - c.min-from.result) (drop c.min-from.result bytes) =
    c.in_ok-part.ensures.items ∙ ap (λ m. take (m - c.min-from.result) (drop c.min-from.result bytes)) c.max.ensures in
    λ k low.
    let inside : k < c.args.count = (let l = c.in_ok-resize.ensures.len in let ok = c.resize.new.self.ok.0 in omega (arith, low, l, ok)) in
    ap (λ xs. get_or xs k 0) c.in_ok-resize.ensures.items
    ∙ resized_at copied c.args.count _ k inside
    ∙ part_copied bytes c.args.offset c.args.count c.min-from.result c.min-end.result c.min-from.ensures c.min-end.ensures copied is k
    inside
