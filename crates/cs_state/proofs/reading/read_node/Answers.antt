use Rattle.std.proofs.Common.{◌≢◌, [], ℕ, List, Some, IsSomeAnd, refl, sym, ap, ◌∙◌, subst}
use Rattle.cs_entries.specs.declared.node.Node.{Node}
use Rattle.cs_apm.specs.Atlases.{files_left}
use Rattle.cs_state.specs.Parts.{read_in}
use Rattle.cs_state.specs.Steps.{members_in}
use Rattle.cs_state.proofs.reading.read_node.Goals as goal

pub returns-in_err-bytes-in-File-clause-memory : goal.returns-in_err-bytes-in-File-clause-memory
unfolding files_left
returns-in_err-bytes-in-File-clause-memory c = λ _.
    subst (λ (node : Node). IsSomeAnd (read_in c.args.parts.now (members_in c.args.members.now) node c.args.offset c.args.count)
    (λ bytes. bytes ≢ [])) (sym c.in-File.is) (c.in_err-bytes-in-File.ensures.memory refl)

pub returns-in_ok-bytes-in-File-clause-value : goal.returns-in_ok-bytes-in-File-clause-value
unfolding files_left
returns-in_ok-bytes-in-File-clause-value c =
    ap (λ (bytes : List ℕ). Some bytes) c.in_ok-bytes-in-File.ensures.value
    ∙ ap (λ (node : Node). read_in c.args.parts.now (members_in c.args.members.now) node c.args.offset c.args.count) (sym c.in-File.is)
