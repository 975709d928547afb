use Rattle.std.proofs.Common.{length, ap, subst, sym, ◌∙◌, ◌≡◌, ◌≤◌, ◌↔◌, Bool, List, Some, ℕ}
use Rattle.std.specs.List.{All, slice_get}
use Rattle.std.specs.Option.{option_map}
use Rattle.cs_names.specs.declared.limits.TheConstants.{TREE_RECORDS}
use Rattle.cs_entries.specs.Legal.{IsTree}
use Rattle.cs_entries.specs.Tables.{AreNested, held_in}
use Rattle.cs_trace.specs.Traces.{Trace, records_made, start_paths, start_table}
use Rattle.cs_trace_lines.specs.Versions.{profile_of}
use Rattle.cs_trace_lines.specs.declared.profile.Profile.{Profile}
use Rattle.cs_micro.specs.Micros.{AreLegalFromStart, Micros, micros_in}
use Rattle.cs_sets.specs.Orders.{needs_in}
use Rattle.cs_apm.specs.Orders.{needs_by, needs_of, order_by, order_of}
use Rattle.cs_sets.specs.Sets.{IsAllowed}
use Rattle.cs_apm.specs.States.{crash_state_of}
use Rattle.cs_plan.specs.Plans.{IsAllowedIn, set_in}
use Rattle.cs_plan.specs.declared.recipe.Recipe.{Recipe}
use Rattle.cs_plan.specs.Scenes.{IsNew, state_at}
use Rattle.cs_plan.proofs.Picking.{all_at, not_past}
use Rattle.cs_plan.proofs.Records.{state_is_new}
use Rattle.cs_plan.proofs.scene.Scene.build.Goals as goal

-- what the plan's order allows, the rules allow
allowed_by : (m n : Micros) (order : List (List Bool)) (plan : List Recipe) (number : ℕ) (recipe : Recipe) (places : List ℕ) → m ≡ n
    → order ≡ order_of n → places ≡ set_in order recipe → slice_get plan number ≡ Some recipe
    → All (λ r. IsAllowedIn order (set_in order r)) plan
    → ((profile : Profile) (set : List ℕ) → IsAllowed (needs_in (order_by m profile)) (length (order_by m profile)) set
    ↔ IsAllowed (needs_by m profile) (length m.ops) set)
    → IsAllowed (needs_of n) (length n.ops) places
allowed_by m n order plan number recipe places same is set there all sets =
    let listed = all_at (λ r. IsAllowedIn order (set_in order r)) plan number recipe there all in
    let own = subst (IsAllowed (needs_in order) (length order)) (sym set) listed in
    subst (λ (k : Micros). IsAllowed (needs_of k) (length k.ops) places) same
    ((sets (profile_of m.version) places).0 (subst (λ o. IsAllowed (needs_in o) (length o) places) (is ∙ ap order_of (sym same)) own))

pub build-requires : goal.build-requires
build-requires c =
    allowed_by c.micros.result.now (micros_in c.self.inside.atlas) c.self.inside.order c.self.inside.plan c.args.number
    c.in-Some.recipe.now c.deref.result.now c.micros.ensures.value c.self.invariant.ordered
    (c.deref.ensures.value ∙ c.in_ok-places.ensures) (sym c.in-Some.ensures) c.self.invariant.planned.allowed
    c.rules_are_sentences.ensures.sets

pub returns-clause-state : goal.returns-clause-state
returns-clause-state c =
    let t = c.self.inside.atlas in
    let recipe = c.in-Some.recipe.now in
    let there : slice_get c.self.inside.plan c.args.number ≡ Some recipe = sym c.in-Some.ensures in
    ap (λ s. state_at s c.args.number) (sym c.self.view_is)
    ∙ ap (λ o. option_map (crash_state_of t (micros_in t)) (option_map (set_in (order_of (micros_in t))) o)) there
    ∙ ap (λ places. Some (crash_state_of t (micros_in t) places))
    (ap (λ order. set_in order recipe) (sym c.self.invariant.ordered) ∙ sym (c.deref.ensures.value ∙ c.in_ok-places.ensures))
    ∙ ap Some (sym c.in_ok-tree.ensures.state)

pub returns-clause-unchanged : goal.returns-clause-unchanged
returns-clause-unchanged c =
    let t = c.self.inside.atlas in
    let same = c.trace.ensures in
    let tree = subst (λ (t : Trace). IsTree (held_in (start_table t))) same c.operations.ensures.tree in
    let few = subst (λ (t : Trace). records_made t ≤ TREE_RECORDS) same c.operations.ensures.few in
    let nested = subst (λ (t : Trace). AreNested (start_paths t)) same c.operations.ensures.nested in
    let legal = subst (λ (m : Micros). AreLegalFromStart t m) c.micros.ensures.value c.micros.ensures.legal in
    subst IsNew (sym c.in_ok-tree.ensures.state)
    (state_is_new t tree nested.root legal few c.deref.result.now
    (allowed_by c.micros.result.now (micros_in t) c.self.inside.order c.self.inside.plan c.args.number c.in-Some.recipe.now
    c.deref.result.now c.micros.ensures.value c.self.invariant.ordered (c.deref.ensures.value ∙ c.in_ok-places.ensures)
    (sym c.in-Some.ensures) c.self.invariant.planned.allowed c.rules_are_sentences.ensures.sets))

pub returns-clause-missing : goal.returns-clause-missing
returns-clause-missing c =
    let there : slice_get c.self.inside.plan c.args.number ≡ Some c.in-Some.recipe.now = sym c.in-Some.ensures in (
      (λ t. absurd (cc t)),
      (λ high. absurd
          (not_past c.self.inside.plan c.args.number c.in-Some.recipe.now there
          (subst (λ s. length s.plan ≤ c.args.number) (sym c.self.view_is) high))),
    )
