use Rattle.std.proofs.Common.{◌≡◌, ◌≢◌, [], List, ℕ, ◌∙◌, subst, take, drop}
use Rattle.std.specs.Prelude.{IfOk, IsErr}
use Rattle.cs_apm.specs.States.{visible}
use Rattle.cs_state.specs.Parts.{file_in}
use Rattle.cs_state.specs.Steps.{members_in}
use Rattle.cs_state.proofs.Filing.{visible_same}
use Rattle.cs_state.proofs.reading.file_bytes.Goals as goal

pub returns-else-index-clause-value : goal.returns-else-index-clause-value
returns-else-index-clause-value c =
    let same : c.bytes_at_start-start.result.now ≡ visible (file_in c.args.parts.now (members_in c.args.members.now) c.args.file) =
    c.bytes_at_start-start.ensures
    ∙ visible_same c.args.parts.now c.requires.parts c.args.file (members_in c.args.members.now) c.requires.known c.index.result.now
    c.index.ensures c.if-index.false in
    subst (λ (bs : List ℕ). IfOk c.copy_piece.result (λ piece. piece.items ≡ take c.args.count (drop c.args.offset bs))) same
    c.copy_piece.ensures.value

pub returns-else-index-clause-memory : goal.returns-else-index-clause-memory
returns-else-index-clause-memory c =
    let same : c.bytes_at_start-start.result.now ≡ visible (file_in c.args.parts.now (members_in c.args.members.now) c.args.file) =
    c.bytes_at_start-start.ensures
    ∙ visible_same c.args.parts.now c.requires.parts c.args.file (members_in c.args.members.now) c.requires.known c.index.result.now
    c.index.ensures c.if-index.false in
    subst (λ (bs : List ℕ). IsErr c.copy_piece.result → take c.args.count (drop c.args.offset bs) ≢ []) same c.copy_piece.ensures.memory
