use Rattle.std.proofs.Common.{ap, sym, ◌∙◌, Some}
use Rattle.cs_entries.specs.Directories.{entries_in}
use Rattle.cs_entries.specs.Paths.{down}
use Rattle.cs_entries.specs.Laws.Listed.{down_nothing}
use Rattle.cs_entries.proofs.directories.node_at.Goals as goal

pub returns-in-File : goal.returns-in-File
returns-in-File c =
    let m = entries_in c.args.directories.now in
    sym (c.loop-name.invariant
    ∙ (λ i. down m (Some (c.in-File.is i)) (c.in-Some.ensures.steps i))
    ∙ down_nothing m c.next.new.self)

pub returns-in-None-node_in : goal.returns-in-None-node_in
returns-in-None-node_in c =
    let m = entries_in c.args.directories.now in
    sym (c.loop-name.invariant
    ∙ (λ i. down m (Some (c.in-Directory.is i)) (c.in-Some.ensures.steps i))
    ∙ ap (λ o. down m o c.next.new.self) (sym c.in-None-node_in.ensures)
    ∙ down_nothing m c.next.new.self)
