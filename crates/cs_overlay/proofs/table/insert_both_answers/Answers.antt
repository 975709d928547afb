use Rattle.std.proofs.Common.{nat_eq, None, Some, ◌∙◌}
use Rattle.std.specs.HashMap.{get}
use Rattle.cs_overlay.proofs.Copies.{same_alike, same_trans}
use Rattle.cs_overlay.proofs.Unseen.{directory_over, keeps_said, same_said, says_both, some_of}
use Rattle.cs_overlay.proofs.table.insert_both_answers.Goals as goal

pub copy_up-requires : goal.copy_up-requires
copy_up-requires g c = some_of _ _ c.requires.there

pub insert_answer-requires : goal.insert_answer-requires
insert_answer-requires g c = c.in_ok-copy_up.ensures.there

pub insert_answer-requires-2 : goal.insert_answer-requires-2
insert_answer-requires-2 g c =
    keeps_said (get nat_eq c.copy_up.new.nodes) c.args.directory c.args.old (Some c.args.number) (get nat_eq c.insert_answer.new.nodes)
    c.in_ok-insert_answer.ensures.ok c.args.directory c.in_ok-copy_up.ensures.there

pub returns-in_err-insert_answer-clause-keeps : goal.returns-in_err-insert_answer-clause-keeps
returns-in_err-insert_answer-clause-keeps g c =
    λ n h. (let m = c.copy_up.ensures.keeps n h in (m.0, c.in_err-insert_answer.ensures.err n ∙ m.1))

pub returns-in_err-insert_answer-2-clause-same : goal.returns-in_err-insert_answer-2-clause-same
returns-in_err-insert_answer-2-clause-same g c =
    let t = g.L.TreeRead.tree c.args.lower.now in
    let mid = get nat_eq c.copy_up.new.nodes in
    let one =
    same_said t mid c.args.directory c.args.old (Some c.args.number)
    (c.copy_up.ensures.same.finds c.args.directory c.args.old ∙ c.requires.old) (get nat_eq c.insert_answer.new.nodes)
    c.in_ok-insert_answer.ensures.ok in
    same_trans t _ mid _ c.copy_up.ensures.same
    (same_trans t mid (get nat_eq c.insert_answer.new.nodes) _ one (same_alike t _ _ c.in_err-insert_answer-2.ensures.err))

pub returns-in_err-insert_answer-2-clause-keeps : goal.returns-in_err-insert_answer-2-clause-keeps
returns-in_err-insert_answer-2-clause-keeps g c =
    λ n h. (let m =
    keeps_said (get nat_eq c.copy_up.new.nodes) c.args.directory c.args.old (Some c.args.number) (get nat_eq c.insert_answer.new.nodes)
    c.in_ok-insert_answer.ensures.ok n (c.copy_up.ensures.keeps n h) in
    (m.0, c.in_err-insert_answer-2.ensures.err n ∙ m.1))

pub returns-clause-same : goal.returns-clause-same
returns-clause-same g c =
    let t = g.L.TreeRead.tree c.args.lower.now in
    let mid = get nat_eq c.copy_up.new.nodes in
    let one =
    same_said t mid c.args.directory c.args.old (Some c.args.number)
    (c.copy_up.ensures.same.finds c.args.directory c.args.old ∙ c.requires.old) (get nat_eq c.insert_answer.new.nodes)
    c.in_ok-insert_answer.ensures.ok in
    let two =
    same_said t (get nat_eq c.insert_answer.new.nodes) c.args.directory c.args.new None
    (one.finds c.args.directory c.args.new ∙ c.copy_up.ensures.same.finds c.args.directory c.args.new ∙ c.requires.new)
    (get nat_eq c.insert_answer-2.new.nodes) c.in_ok-insert_answer-2.ensures.ok in
    same_trans t _ mid _ c.copy_up.ensures.same (same_trans t mid (get nat_eq c.insert_answer.new.nodes) _ one two)

pub returns-clause-keeps : goal.returns-clause-keeps
returns-clause-keeps g c =
    λ n h. keeps_said (get nat_eq c.insert_answer.new.nodes) c.args.directory c.args.new None (get nat_eq c.insert_answer-2.new.nodes)
    c.in_ok-insert_answer-2.ensures.ok n
    (keeps_said (get nat_eq c.copy_up.new.nodes) c.args.directory c.args.old (Some c.args.number) (get nat_eq c.insert_answer.new.nodes)
    c.in_ok-insert_answer.ensures.ok n (c.copy_up.ensures.keeps n h))

pub returns-clause-there : goal.returns-clause-there
returns-clause-there g c =
    let t = g.L.TreeRead.tree c.args.lower.now in
    let has = c.in_ok-copy_up.ensures.there in
    says_both t (get nat_eq c.copy_up.new.nodes) c.args.directory c.args.old c.args.new (Some c.args.number) None
    (get nat_eq c.insert_answer.new.nodes) (get nat_eq c.insert_answer-2.new.nodes) has.0 has.1
    (directory_over t (get nat_eq c.args.nodes.now) (get nat_eq c.copy_up.new.nodes) c.args.directory c.requires.there
    c.copy_up.ensures.same has) c.in_ok-insert_answer.ensures.ok c.in_ok-insert_answer-2.ensures.ok
