use Rattle.std.proofs.Common.{[], ◌∷◌, ◌++◌, refl, sym, ap, ◌∙◌}
use Rattle.std.proofs.lemmas.Slice.{pushed}
use Rattle.cs_start.specs.Owned.{own_paths}
use Rattle.cs_trace.specs.Kept.{state_of}
use Rattle.cs_trace.proofs.StartNext.{files_kept, link_state, put_held}
use Rattle.cs_trace.proofs.put_start.put_link.Goals as goal

pub returns : goal.returns
returns c =
    let s = state_of c.args.state.now in
    let p = c.args.path in
    let e = c.args.entry in
    let file = c.args.file in
    let count = c.args.state.now.file_count in
    let links = c.args.state.now.links.items in
    let start = c.in_ok-insert.ensures.state in
    link_state s p e file _ _ _ _ _ start
    (ap (λ m. own_paths m count) start ∙ files_kept s p e count refl c.requires.absent c.requires.further)
    (pushed ((c.in_ok-try_clone.field-0, file) ∷ []) refl c.in_ok-push.was c.push.ensures.items
    ∙ ap (λ q. links ++ (q, file) ∷ []) c.in_ok-try_clone.ensures)
    (c.in_ok-put_named.ensures.state
    ∙ put_held s p c.args.directory c.last_name-name.result.now c.requires.named c.requires.above (sym c.last_name-name.ensures) e.node)
    refl
