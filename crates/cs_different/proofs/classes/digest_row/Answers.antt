use Rattle.std.proofs.Common.{◌≡◌, fold, ap, sym, ◌∙◌, arith}
use Rattle.std.specs.List.{range_with_len}
use Rattle.cs_sets.specs.Bits.{has_place}
use Rattle.cs_different.specs.Classing.{digest_of_row, with_place}
use Rattle.cs_different.specs.declared.classes.TheConstants.{NO_PLACES}
use Rattle.cs_different.proofs.Ranges.{fold_more}
use Rattle.cs_different.proofs.classes.digest_row.Goals as goal

pub loop-place-preserved : goal.loop-place-preserved
loop-place-preserved c =
    let f = with_place (has_place c.args.row.now) in
    let k = c.loop-place.place in
    c.mix_place-digest.ensures ∙ ap (λ d. f d k) c.loop-place.invariant ∙ sym (fold_more f NO_PLACES k)

pub returns : goal.returns
unfolding digest_of_row
returns c =
    let all : c.loop-place.place ≡ c.args.end = omega arith in
    c.loop-place.invariant ∙ ap (λ n. fold (with_place (has_place c.args.row.now)) NO_PLACES (range_with_len 0 n)) all
