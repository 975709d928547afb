use Rattle.std.proofs.Common.{◌≡◌, ◌+◌, fold, ap, sym, ◌∙◌, arith}
use Rattle.std.specs.List.{range_with_len}
use Rattle.cs_different.specs.Digests.{digest_at, digest_of}
use Rattle.cs_different.proofs.Ranges.{fold_more}
use Rattle.cs_different.proofs.digest.digest_tree.Goals as goal

pub loop-number-preserved : goal.loop-number-preserved
loop-number-preserved g c =
    let f = digest_at (g.T.TreeRead.tree c.args.tree.now) in
    let n = c.loop-number.number in
    c.in_ok-digest.ensures ∙ ap (λ d. f d n) c.loop-number.invariant ∙ sym (fold_more f 0 n)

pub returns : goal.returns
unfolding digest_of
returns g c =
    let t = g.T.TreeRead.tree c.args.tree.now in
    let f = digest_at t in
    let last = c.last_number-last.result in
    let all : c.loop-number.number ≡ last = omega arith in
    let next : t.next ≡ last + 1 = c.last_number-last.ensures in
    c.in_ok-whole.ensures ∙ ap (λ d. f d last) (c.loop-number.invariant ∙ ap (λ n. fold f 0 (range_with_len 0 n)) all)
    ∙ sym (fold_more f 0 last) ∙ sym (ap (λ n. fold f 0 (range_with_len 0 n)) next)
