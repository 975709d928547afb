use Rattle.std.proofs.Common.{length, ap, ◌∙◌, ◌++◌, ◌∷◌, []}
use Rattle.cs_sets.specs.Rows.{needed_in}
use Rattle.cs_sets.proofs.Crowding.{first_reached}
use Rattle.cs_sets.proofs.Tables.{first_weighs}
use Rattle.cs_sets.proofs.count.first_level.Goals as goal

pub returns-clause-weight : goal.returns-clause-weight
returns-clause-weight c =
    first_weighs (needed_in c.args.needed.now) (length c.args.needed.now) c.args.most c.below-left.result c.push.new.self.items
    c.below-left.ensures
    (c.in_ok-push.ensures.items ∙ ap (λ v. v ++ record { left = c.below-left.result; sets = 1 } ∷ []) c.new-level.ensures.items)

pub returns-clause-reached : goal.returns-clause-reached
returns-clause-reached c =
    first_reached (needed_in c.args.needed.now) (length c.args.needed.now) c.below-left.result c.push.new.self.items 1 c.know_words.ensures
    c.below-left.ensures
    (c.in_ok-push.ensures.items ∙ ap (λ v. v ++ record { left = c.below-left.result; sets = 1 } ∷ []) c.new-level.ensures.items)
