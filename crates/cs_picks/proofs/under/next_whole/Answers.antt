use Rattle.std.proofs.Common.{ap, sym, ◌∙◌}
use Rattle.std.specs.List.{filter}
use Rattle.cs_sets.specs.Places.{places_of}
use Rattle.cs_different.specs.Members.{has_seconds}
use Rattle.cs_picks.proofs.Members.{fails_next, passes_next}
use Rattle.cs_picks.proofs.under.next_whole.Goals as goal

pub loop-set-preserved : goal.loop-set-preserved
loop-set-preserved c =
    let p = has_seconds c.args.firsts.now in
    sym (fails_next p c.loop-set.sets c.next.new.self (places_of c.in-Some.set) c.in-Some.ensures.steps
    (sym c.has_seconds.ensures ∙ c.if-has_seconds.false)) ∙ c.loop-set.invariant

pub returns-then-has_seconds : goal.returns-then-has_seconds
returns-then-has_seconds c =
    let p = has_seconds c.args.firsts.now in
    sym c.loop-set.invariant ∙ passes_next p c.loop-set.sets c.next.new.self (places_of c.in-Some.set) c.in-Some.ensures.steps
    (sym c.has_seconds.ensures ∙ c.if-has_seconds.true)

pub returns : goal.returns
returns c = sym c.loop-set.invariant ∙ ap (filter (has_seconds c.args.firsts.now)) c.in_default.ensures.steps.0
