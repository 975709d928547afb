use Rattle.std.proofs.Common.{sym, ap, ◌∙◌, ◌+◌, arith}
use Rattle.cs_permit.specs.Shown.{qid_or_zeros}
use Rattle.cs_permit.specs.Walks.{element}
use Rattle.cs_run.proofs.Ways.{all-append, stops_at, goes_on, ends_at}
use Rattle.cs_run.proofs.walking.walk_names.Goals as goal

pub returns-in-Err-clause-value : goal.returns-in-Err-clause-value
returns-in-Err-clause-value g c =
    let t = g.T.TreeRead.tree c.args.tree.now in
    let fails =
    sym c.in-Err.is ∙ c.walk_element.ensures ∙ ap (element t c.args.users.now c.args.user.now c.loop-name.last) c.as_str.ensures.value in
    c.new.ensures ∙ stops_at t c.args.users.now c.args.user.now c.loop-name.last c.args.names.now c.loop-name.name-index c.name-item.result
    c.loop-name.qids.items _ c.loop-name-test.true c.name-item.is c.in-Err.rule fails c.loop-name.invariant.going

pub loop-name-preserved : goal.loop-name-preserved
loop-name-preserved g c =
    let t = g.T.TreeRead.tree c.args.tree.now in
    let leads =
    sym c.in-Ok.is ∙ c.walk_element.ensures ∙ ap (element t c.args.users.now c.args.user.now c.loop-name.last) c.as_str.ensures.value in
    record {
      going = rw (c.push_reserved.ensures.items, c.qid_or_zeros.ensures.value ∙ ap qid_or_zeros c.record-file.ensures.value)
          (goes_on t c.args.users.now c.args.user.now c.loop-name.last c.args.names.now c.loop-name.name-index c.name-item.result
          c.loop-name.qids.items _ c.loop-name-test.true c.name-item.is c.in-Ok.next leads c.loop-name.invariant.going);
      known = c.record-file.ensures.value;
      fit = rw c.push_reserved.ensures.items (all-append c.loop-name.qids.items _ c.loop-name.invariant.fit c.qid_or_zeros.ensures.fits);
      len = c.push_reserved.ensures.len ∙ ap (λ n. n + 1) c.loop-name.invariant.len;
      room = omega (arith, c.push_reserved.ensures.capacity, c.loop-name.invariant.room);
    }

pub returns-clause-value : goal.returns-clause-value
returns-clause-value g c =
    c.new-2.ensures ∙ ends_at (g.T.TreeRead.tree c.args.tree.now) c.args.users.now c.args.user.now c.loop-name.last c.args.names.now
    c.loop-name.name-index c.loop-name.qids.items _ c.loop-name-test.false c.loop-name.invariant.going
