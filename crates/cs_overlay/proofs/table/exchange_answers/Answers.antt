use Rattle.std.proofs.Common.{IsSome, IfSome, sym, subst}
use Rattle.cs_overlay.specs.Layers.{own_in}
use Rattle.cs_overlay.proofs.Unseen.{still_said}
use Rattle.cs_overlay.proofs.table.exchange_answers.Goals as goal

pub set_answer-requires-in-Some : goal.set_answer-requires-in-Some
set_answer-requires-in-Some c = subst (λ d. IsSome (own_in d.body c.args.new.now)) (sym c.set_answer.ensures)
    (still_said c.in-Some.node.body c.args.old.now _ c.args.new.now
    (subst (λ o. IfSome o (λ d. IsSome (own_in d.body c.args.new.now))) c.in-Some.is c.requires.new))
