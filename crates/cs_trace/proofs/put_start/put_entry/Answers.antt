use Rattle.std.proofs.Common.{refl, sym, ap, ◌∙◌}
use Rattle.std.specs.FinMap.{get, insert}
use Rattle.std.specs.Option.{is_some}
use Rattle.cs_entries.specs.Paths.{entry_in}
use Rattle.cs_start.specs.Owned.{own_paths}
use Rattle.cs_trace.specs.Kept.{state_of}
use Rattle.cs_trace.proofs.StartNext.{entry_state, files_next, nothing_is, put_held, put_home}
use Rattle.cs_trace.proofs.put_start.put_entry.Goals as goal

pub returns-clause-state : goal.returns-clause-state
returns-clause-state c = λ fresh.
    let s = state_of c.args.state.now in
    let p = c.args.path in
    let e = c.args.entry in
    let d = c.args.directory in
    let name = c.last_name-name.result.now in
    let last = sym c.last_name-name.ensures in
    let count = c.args.state.now.file_count in
    let parts = c.in_ok-put_parts.ensures in
    let none = nothing_is (get s.system.entries (entry_in d name))
    (ap is_some (sym (c.in_ok-before.ensures.before ∙ ap (λ t. get t (entry_in d name)) parts.tree)) ∙ sym c.is_some.ensures ∙ fresh) in
    let free = c.requires.absent (ap (λ n. get s.system.entries (entry_in d n)) last ∙ none) in
    let start = c.in_ok-insert.ensures.state ∙ ap (λ m. insert m p e) parts.start in
    entry_state s p e _ _ _ _ _ _ _ _ _ _ parts.version start
    ((λ i. own_paths (start i) (parts.count i))
    ∙ files_next s p e count refl free c.requires.starting.below c.requires.starting.even c.requires.own c.requires.number)
    parts.links
    (c.in_ok-before.ensures.state ∙ ap (λ t. insert t (entry_in d name) e.node) parts.tree
    ∙ put_held s p d name c.requires.named c.requires.above last e.node)
    parts.sizes (parts.homes ∙ put_home s p d name c.requires.above last e.node) parts.made parts.attributes parts.operations
