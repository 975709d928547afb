use Rattle.std.proofs.Common.{length, sym, ◌∙◌, ◌+◌}
use Rattle.cs_sets.specs.Rows.{needed_in}
use Rattle.cs_sets.proofs.Crowding.{pushed_reached, reached_with, reached_without}
use Rattle.cs_sets.proofs.Tables.{cleared_out, pushed_one, pushed_two}
use Rattle.cs_sets.proofs.count.push_halves.Goals as goal

pub returns-then-not-has_place-clause-weight : goal.returns-then-not-has_place-clause-weight
returns-then-not-has_place-clause-weight c =
    let n = length c.args.needed.now in
    pushed_one (needed_in c.args.needed.now) n c.args.place c.args.next.now.items c.push.new.self.items c.args.future.now c.clear.new.self
    c.requires.inside
    (cleared_out c.args.needed.now c.args.future.now.left c.remove.new.self c.clear.new.self c.args.place _ c.requires.inside
    c.remove.ensures
    c.clear.ensures)
    (sym c.has_place.ensures ∙ c.if-not-has_place.true)
    c.in_ok-push.ensures.items

pub returns-clause-weight : goal.returns-clause-weight
returns-clause-weight c =
    let n = length c.args.needed.now in
    pushed_two (needed_in c.args.needed.now) n c.args.place c.args.next.now.items c.push.new.self.items c.push-2.new.self.items
    c.args.future.now
    c.clear.new.self c.clear-2.new.self c.requires.inside
    (cleared_out c.args.needed.now c.args.future.now.left c.remove.new.self c.clear.new.self c.args.place _ c.requires.inside
    c.remove.ensures
    c.clear.ensures)
    c.clear-2.ensures
    (sym c.has_place.ensures ∙ c.if-not-has_place.false)
    c.in_ok-push.ensures.items c.in_ok-push-2.ensures.items

pub returns-then-not-has_place-clause-reached : goal.returns-then-not-has_place-clause-reached
returns-then-not-has_place-clause-reached c =
    let needs = needed_in c.args.needed.now in
    let n = length c.args.needed.now in
    λ all at.
    pushed_reached needs n (c.args.place + 1) c.args.next.now.items c.push.new.self.items
    (record { left = c.clear.new.self; sets = c.args.future.now.sets }) all
    (reached_without needs n c.args.place c.requires.inside c.args.future.now.left at c.clear.new.self c.know_words.ensures
    (cleared_out c.args.needed.now c.args.future.now.left c.remove.new.self c.clear.new.self c.args.place _ c.requires.inside
    c.remove.ensures
    c.clear.ensures))
    c.in_ok-push.ensures.items

pub returns-clause-reached : goal.returns-clause-reached
returns-clause-reached c =
    let needs = needed_in c.args.needed.now in
    let n = length c.args.needed.now in
    λ all at.
    pushed_reached needs n (c.args.place + 1) c.push.new.self.items c.push-2.new.self.items
    (record { left = c.clear-2.new.self; sets = c.args.future.now.sets })
    (pushed_reached needs n (c.args.place + 1) c.args.next.now.items c.push.new.self.items
    (record { left = c.clear.new.self; sets = c.args.future.now.sets }) all
    (reached_without needs n c.args.place c.requires.inside c.args.future.now.left at c.clear.new.self c.know_words.ensures
    (cleared_out c.args.needed.now c.args.future.now.left c.remove.new.self c.clear.new.self c.args.place _ c.requires.inside
    c.remove.ensures
    c.clear.ensures))
    c.in_ok-push.ensures.items)
    (reached_with needs n c.args.place c.requires.inside c.args.future.now.left at c.clear-2.new.self c.know_words-2.ensures
    c.clear-2.ensures
    (sym c.has_place.ensures ∙ c.if-not-has_place.false))
    c.in_ok-push-2.ensures.items
