use Rattle.std.proofs.Common.{[], refl, sym, ap, ◌∙◌}
use Rattle.std.proofs.lemmas.Bool.{false≢true}
use Rattle.std.specs.FinMap.{insert}
use Rattle.cs_start.specs.Owned.{own_paths}
use Rattle.cs_trace.specs.Kept.{state_of}
use Rattle.cs_trace.proofs.StartNext.{entry_state, files_next, put_home}
use Rattle.cs_trace.proofs.put_start.put_root.Goals as goal

pub returns : goal.returns
returns c =
    let s = state_of c.args.state.now in
    let e = c.args.entry in
    let count = c.args.state.now.file_count in
    let parts = c.in_ok-put_parts.ensures in
    let start = c.in_ok-insert.ensures.state ∙ (λ i. insert (parts.start i) (c.root.ensures i) e) in
    entry_state s [] e _ _ _ _ _ _ _ _ _ _ parts.version start
    ((λ i. own_paths (start i) (parts.count i))
    ∙ files_next s [] e count refl c.requires.free c.requires.starting.below c.requires.starting.even
    (c.requires.further ∙ sym c.requires.directory) (λ leaf. absurd (false≢true (sym c.requires.directory ∙ leaf))))
    parts.links parts.tree parts.sizes (parts.homes ∙ put_home s [] 0 [] refl refl e.node) parts.made parts.attributes parts.operations
