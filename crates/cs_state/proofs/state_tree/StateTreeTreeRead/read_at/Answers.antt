use Rattle.std.proofs.Common.{◌≢◌, [], IsSomeAnd, refl, sym, ap, ◌∙◌, subst}
use Rattle.cs_tree_model.specs.Tree.{Tree, bytes_at}
use Rattle.cs_state.proofs.Answering.{bytes_is, known_is, no_bytes}
use Rattle.cs_state.proofs.state_tree.StateTreeTreeRead.read_at.Goals as goal

pub read-requires-clause-known : goal.read-requires-clause-known
read-requires-clause-known c =
    let w = c.in-Some.ensures.there in
    known_is c.self.inside.state c.self.invariant w.0 c.args.number w.1.1 c.in-Some.node w.1.0

pub returns-in_default-clause-value : goal.returns-in_default-clause-value
returns-in_default-clause-value c =
    sym (no_bytes c.self.inside.state c.self.invariant c.args.number c.in_default.ensures.none c.args.offset c.args.count)
    ∙ ap (λ (t : Tree). bytes_at t c.args.number c.args.offset c.args.count) c.self.view_is

pub returns-in_err-bytes-clause-memory : goal.returns-in_err-bytes-clause-memory
returns-in_err-bytes-clause-memory c =
    let w = c.in-Some.ensures.there in
    λ _. subst (λ o. IsSomeAnd o (λ bytes. bytes ≢ []))
    (sym (bytes_is c.self.inside.state c.self.invariant w.0 c.args.number w.1.1 c.in-Some.node w.1.0 c.args.offset c.args.count)
    ∙ ap (λ (t : Tree). bytes_at t c.args.number c.args.offset c.args.count) c.self.view_is)
    (c.in_err-bytes.ensures.memory refl)

pub returns-clause-value : goal.returns-clause-value
returns-clause-value c =
    let w = c.in-Some.ensures.there in
    c.in_ok-bytes.ensures.value
    ∙ sym (bytes_is c.self.inside.state c.self.invariant w.0 c.args.number w.1.1 c.in-Some.node w.1.0 c.args.offset c.args.count)
    ∙ ap (λ (t : Tree). bytes_at t c.args.number c.args.offset c.args.count) c.self.view_is
