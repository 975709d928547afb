use Rattle.std.proofs.Common.{rules, arith, subst, refl}
use Rattle.std.proofs.lemmas.Bool.{false≢true}
use Rattle.cs_sets.specs.Bits.{has_place}
use Rattle.cs_sets.proofs.Words.{AddsNone, adds_none, adds_one}
use Rattle.cs_sets.proofs.row.Row.is_within.Goals as goal

pub returns-then-self-w : goal.returns-then-self-w
unfolding has_place
returns-then-self-w c = (
  (λ t. absurd (false≢true t)),
  (λ h. absurd (c.if-self-w.true (adds_one c.args.self.now.words c.args.other.now.words c.loop-w.w (search rules) (search rules) h))),
)

pub returns : goal.returns
unfolding has_place
returns c = (
  (λ t. adds_none c.args.self.now.words c.args.other.now.words (search rules)
      (subst (λ w. AddsNone c.args.self.now.words c.args.other.now.words w) (omega arith) c.loop-w.invariant)),
  (λ h. refl),
)
