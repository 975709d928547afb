use Rattle.std.proofs.Common.{◌+◌, ◌<◌, ◌≤◌, ℕ, List, Option, None, Some, IfNone, IfSome, sym, ap, ◌∙◌, subst, length}
use Rattle.std.specs.Arc.{arc_value}
use Rattle.std.specs.List.{All}
use Rattle.cs_apm.specs.Slots.{Slot}
use Rattle.cs_paths.specs.Marks.{kept_at}
use Rattle.cs_paths.specs.PathOrders.{slots_by_path}
use Rattle.cs_state.specs.declared.numbers.Found.{Found}
use Rattle.cs_state.specs.declared.numbers.Own.{Own}
use Rattle.cs_state.specs.declared.parts.Parts.{Parts}
use Rattle.cs_state.specs.Numbers.{number_in, IsFound}
use Rattle.cs_state.specs.States.{places_in}
use Rattle.cs_state.proofs.Sharing.{count_is, found_number, found_slot, inside_slots, kept_low}
use Rattle.cs_state.proofs.state.State.found_at.Goals as goal

if_some : {X : Type 0} {P Q : X → Type 0} (o : Option X) → ((x : X) → P x → Q x) → IfSome o P → IfSome o Q
if_some None f h = tt
if_some (Some x) f h = f x h

if_both : {X : Type 0} {P Q R : X → Type 0} (o : Option X) → ((x : X) → P x → Q x → R x) → IfSome o P → IfSome o Q → IfSome o R
if_both None f h k = tt
if_both (Some x) f h k = f x h k

if_none : {X : Type 0} {P Q : Type 0} (o : Option X) → (P → Q) → IfNone o P → IfNone o Q
if_none None f h = f h
if_none (Some x) f h = tt

pub found_at_number-requires-clause-inside : goal.found_at_number-requires-clause-inside
found_at_number-requires-clause-inside c =
    let s = c.args.self.now in
    subst (λ (w : List ℕ × List ℕ). (k : ℕ) → k < length w.0 → kept_at w.0 k < length w.1 + 1)
    (sym (λ i. (c.deref.ensures.value i, c.deref-2.ensures.value i)))
    (kept_low (arc_value s.parts) (places_in s) s.moved s.own.items c.requires.state c.order.result.now c.order.ensures
    c.kept_ids.result.now c.kept_ids.ensures)

pub found_at_number-requires-clause-places : goal.found_at_number-requires-clause-places
found_at_number-requires-clause-places c =
    let s = c.args.self.now in
    let slots = c.deref-4.ensures.value ∙ ap (λ (p : Parts). p.tables.slots.items) c.deref-3.ensures in
    subst (λ (w : List ℕ × List Slot). All (λ place. place < length w.1) w.0) (sym (λ i. (c.deref-2.ensures.value i, slots i)))
    (inside_slots (arc_value s.parts) (places_in s) s.moved s.own.items c.requires.state c.order.result.now c.order.ensures)

pub returns-clause-slot : goal.returns-clause-slot
returns-clause-slot c =
    let s = c.args.self.now in
    let slots = c.deref-4.ensures.value ∙ ap (λ (p : Parts). p.tables.slots.items) c.deref-3.ensures in
    if_some c.found_at_number.result
    (λ f is. found_slot (arc_value s.parts) (places_in s) s.moved s.own.items c.requires.state c.order.result.now c.order.ensures
    c.kept_ids.result.now c.kept_ids.ensures f
    (subst (λ (w : List ℕ × List ℕ × List Slot × List Own). IsFound w.0 (slots_by_path w.1 w.2) w.3 f)
    (λ i. (c.deref.ensures.value i, c.deref-2.ensures.value i, slots i, c.deref-5.ensures.value i)) is))
    c.found_at_number.ensures.found

pub returns-clause-number : goal.returns-clause-number
returns-clause-number c =
    let s = c.args.self.now in
    let slots = c.deref-4.ensures.value ∙ ap (λ (p : Parts). p.tables.slots.items) c.deref-3.ensures in
    if_both c.found_at_number.result
    (λ f is number. found_number (arc_value s.parts) (places_in s) s.moved s.own.items c.requires.state c.order.result.now c.order.ensures
    c.kept_ids.result.now c.kept_ids.ensures f c.args.number
    (subst (λ (w : List ℕ × List ℕ × List Slot × List Own). IsFound w.0 (slots_by_path w.1 w.2) w.3 f)
    (λ i. (c.deref.ensures.value i, c.deref-2.ensures.value i, slots i, c.deref-5.ensures.value i)) is)
    ((λ i. number_in (sym c.deref.ensures.value i) (sym c.deref-5.ensures.value i) f.id) ∙ number))
    c.found_at_number.ensures.found c.found_at_number.ensures.number

pub returns-clause-none : goal.returns-clause-none
returns-clause-none c =
    let s = c.args.self.now in
    if_none c.found_at_number.result
    (λ le. subst (λ n. n ≤ c.args.number)
    ((λ i. length (c.deref.ensures.value i) + length (c.deref-5.ensures.value i))
    ∙ count_is (arc_value s.parts) (places_in s) s.moved s.own.items c.requires.state c.order.result.now c.order.ensures
    c.kept_ids.result.now c.kept_ids.ensures) le)
    c.found_at_number.ensures.none
