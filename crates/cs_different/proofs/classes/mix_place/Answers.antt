use Rattle.std.proofs.Common.{ap, cond, sym, ◌∙◌}
use Rattle.cs_different.specs.Digests.{with_part}
use Rattle.cs_different.proofs.classes.mix_place.Goals as goal

pub returns-then-has_place : goal.returns-then-has_place
returns-then-has_place c =
    c.mix.ensures
    ∙ sym (ap (λ b. cond b (with_part c.args.digest c.args.place) c.args.digest) (sym c.has_place.ensures ∙ c.if-has_place.true))

pub returns : goal.returns
returns c =
    sym (ap (λ b. cond b (with_part c.args.digest c.args.place) c.args.digest) (sym c.has_place.ensures ∙ c.if-has_place.false))
