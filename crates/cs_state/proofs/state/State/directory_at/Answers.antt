use Rattle.std.proofs.Common.{Some, ap, ◌∙◌, inl}
use Rattle.cs_entries.specs.declared.node.Node.{Node}
use Rattle.cs_state.proofs.state.State.directory_at.Goals as goal

pub returns-in-Directory-clause-there : goal.returns-in-Directory-clause-there
returns-in-Directory-clause-there c =
    let w = c.in_ok-node.ensures.there in
    (w.0, (w.1.0 ∙ ap (λ (v : Node). Some v) c.in-Directory.is, w.1.1))

pub returns-in-File-clause-none : goal.returns-in-File-clause-none
returns-in-File-clause-none c =
    let w = c.in_ok-node.ensures.there in
    inl (w.0, c.in-File.field-0, c.in-File.field-1, (w.1.0 ∙ ap (λ (v : Node). Some v) c.in-File.is, w.1.1))
