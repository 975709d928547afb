use Rattle.std.proofs.Common.{ap, arith, length, sym, take, ◌∙◌}
use Rattle.std.proofs.lemmas.List.{length-map}
use Rattle.cs_micro.specs.Laws.Starts.{length-paths_of_files}
use Rattle.cs_micro.proofs.Linking.{link_known, link_pushed, own_paths}
use Rattle.cs_micro.proofs.starts.paths_of_files.Goals as goal

pub loop-path-init : goal.loop-path-init
loop-path-init c = c.in_ok-starts.ensures.value ∙ sym (own_paths c.args.trace.now.files)

pub index_mut-requires : goal.index_mut-requires
index_mut-requires c =
    let t = c.args.trace.now in
    let lent = c.links-path-items.ensures in
    let links = c.links-path-items.result.now in
    let k = c.loop-path.path-index in
    let known =
    link_known t lent.linked c.in_ok-starts.ensures.numbered links lent.value k c.loop-path-item.result c.loop-path-test.true
    c.loop-path-item.is in
    let long =
    sym (length-map c.loop-path.starts.items (λ paths. paths.items)) ∙ ap length c.loop-path.invariant ∙ length-paths_of_files t.files
    (take k links) in
    omega (arith, known, long, c.loop-path.starts.ok.0)

pub loop-path-preserved : goal.loop-path-preserved
loop-path-preserved c =
    let t = c.args.trace.now in
    let lent = c.links-path-items.ensures in
    let links = c.links-path-items.result.now in
    let k = c.loop-path.path-index in
    let link = c.loop-path-item.result in
    let known =
    link_known t lent.linked c.in_ok-starts.ensures.numbered links lent.value k link c.loop-path-test.true c.loop-path-item.is in
    link_pushed (λ paths. paths.items) c.loop-path.starts.items t.files links k link c.in_ok-try_clone.field-0 c.index_mut.result.now
    c.push.new.self c.loop-path-test.true c.loop-path-item.is known c.loop-path.invariant c.index_mut.ensures.value
    c.in_ok-try_clone.ensures c.in_ok-push.ensures.items

pub returns-in_err-try_clone-clause-memory : goal.returns-in_err-try_clone-clause-memory
returns-in_err-try_clone-clause-memory c refused =
    let lent = c.links-path-items.ensures in
    let known =
    link_known c.args.trace.now lent.linked c.in_ok-starts.ensures.numbered c.links-path-items.result.now lent.value c.loop-path.path-index
    c.loop-path-item.result c.loop-path-test.true c.loop-path-item.is in
    omega (arith, known)

pub returns-in_err-push-clause-memory : goal.returns-in_err-push-clause-memory
returns-in_err-push-clause-memory c refused =
    let lent = c.links-path-items.ensures in
    let known =
    link_known c.args.trace.now lent.linked c.in_ok-starts.ensures.numbered c.links-path-items.result.now lent.value c.loop-path.path-index
    c.loop-path-item.result c.loop-path-test.true c.loop-path-item.is in
    omega (arith, known)
