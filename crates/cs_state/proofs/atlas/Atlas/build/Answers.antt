use Rattle.std.proofs.Common.{◌≡◌, ◌<◌, ◌≤◌, ℕ, Bool, true, false, List, sym, ap, ◌∙◌, subst, length}
use Rattle.std.specs.Arc.{arc_value}
use Rattle.cs_tree_model.specs.Tree.{IsTree}
use Rattle.cs_micro.specs.Micros.{Micros, micros_in}
use Rattle.cs_apm.specs.Atlases.{atlas_in}
use Rattle.cs_apm.specs.Orders.{needs_of}
use Rattle.cs_apm.specs.States.{crash_state_of}
use Rattle.cs_apm.proofs.Building.{is_tree_left}
use Rattle.cs_sets.specs.Sets.{IsAllowed}
use Rattle.cs_state.specs.Parts.{state_in}
use Rattle.cs_paths.specs.Marks.{kept_at, mark_at}
use Rattle.cs_paths.specs.PathOrders.{moves_kept}
use Rattle.cs_paths.proofs.Laws.{moves_counted, moves_first}
use Rattle.cs_state.specs.declared.parts.Parts.{Parts}
use Rattle.cs_state.proofs.atlas.Atlas.build.Goals as goal

pub returns-clause-state : goal.returns-clause-state
returns-clause-state c =
    let parts = arc_value c.self.inside.parts in
    c.of.ensures
    ∙ (λ i. state_in (c.in_ok-parts.ensures i) (c.in_ok-members.ensures.members i))
    ∙ ap (λ m. crash_state_of parts.trace m c.args.places.now) c.self.invariant.whole.broken
    ∙ ap (λ t. crash_state_of t (micros_in t) c.args.places.now) c.self.view_is

pub returns-clause-tree : goal.returns-clause-tree
returns-clause-tree c =
    let parts = arc_value c.self.inside.parts in
    let allowed =
    subst (λ (m : Micros). IsAllowed (needs_of m) (length m.ops) c.args.places.now)
    (sym (c.self.invariant.whole.broken ∙ ap micros_in c.self.view_is)) c.requires in
    subst IsTree (sym (c.of.ensures ∙ (λ i. state_in (c.in_ok-parts.ensures i) (c.in_ok-members.ensures.members i))))
    (is_tree_left parts.trace parts.micros (atlas_in parts.tables) c.self.invariant.whole.atlas c.args.places.now allowed)

pub count_members-moved-requires : goal.count_members-moved-requires
count_members-moved-requires c =
    let parts = arc_value c.self.inside.parts in
    let moves = c.deref-4.ensures.value ∙ ap (λ (p : Parts). p.shares.paths.moves.items) c.deref-3.ensures
    ∙ c.self.invariant.shares.paths.moves in
    let members = c.in_ok-members.members.items in
    let micros = c.self.invariant.whole.broken ∙ ap micros_in c.self.view_is in
    let allowed =
    subst (λ (m : Micros). IsAllowed (needs_of m) (length m.ops) c.args.places.now) (sym micros) c.requires in
    let long : length members ≡ length parts.micros.ops =
    c.in_ok-members.ensures.long ∙ ap length (c.ops.ensures.value ∙ ap (λ (p : Parts). p.micros.ops) c.deref.ensures) in
    subst (λ (w : List ℕ × List Bool). (i j : ℕ) → i < j → j < length w.0 → mark_at w.1 (kept_at w.0 j) ≡ true
    → mark_at w.1 (kept_at w.0 i) ≡ true) (sym (λ i. (moves i, c.deref-2.ensures.value i)))
    (moves_first parts.micros members long
    (subst (IsAllowed (needs_of parts.micros) (length parts.micros.ops)) (sym c.in_ok-members.ensures.members) allowed))

pub own_of-requires-clause-moved : goal.own_of-requires-clause-moved
own_of-requires-clause-moved c =
    let parts = arc_value c.self.inside.parts in
    let moves = c.deref-4.ensures.value ∙ ap (λ (p : Parts). p.shares.paths.moves.items) c.deref-3.ensures
    ∙ c.self.invariant.shares.paths.moves in
    let members = c.in_ok-members.members.items in
    let micros = c.self.invariant.whole.broken ∙ ap micros_in c.self.view_is in
    let allowed =
    subst (λ (m : Micros). IsAllowed (needs_of m) (length m.ops) c.args.places.now) (sym micros) c.requires in
    let long : length members ≡ length parts.micros.ops =
    c.in_ok-members.ensures.long ∙ ap length (c.ops.ensures.value ∙ ap (λ (p : Parts). p.micros.ops) c.deref.ensures) in
    let n = c.count_members-moved.result in
    let e = c.count_members-moved.ensures in
    moves_counted parts.micros members long
    (subst (IsAllowed (needs_of parts.micros) (length parts.micros.ops)) (sym c.in_ok-members.ensures.members) allowed) n
    (subst (λ (ms : List ℕ). n ≤ length ms) moves e.bound)
    (subst (λ (w : List ℕ × List Bool). (k : ℕ) → k < n → mark_at w.1 (kept_at w.0 k) ≡ true)
    (λ i. (moves i, c.deref-2.ensures.value i)) e.low)
    (subst (λ (w : List ℕ × List Bool). (k : ℕ) → n ≤ k → k < length w.0 → mark_at w.1 (kept_at w.0 k) ≡ false)
    (λ i. (moves i, c.deref-2.ensures.value i)) e.high)
    ∙ (λ i. moves_kept (sym c.deref-5.ensures i).micros.ops (c.in_ok-members.ensures.members i))
