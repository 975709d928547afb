use Rattle.std.proofs.Common.{rules, ◌≡◌, true, ◌⊎◌, ◌↔◌, ◌<◌, ℕ, List, IfErr, inl, inr, sym, ap, ◌∙◌, ⊎_elim, length, map, subst}
use Rattle.std.specs.List.{All}
use Rattle.cs_apm.specs.Orders.{needs_of, order_of}
use Rattle.cs_sets.specs.Orders.{needs_in}
use Rattle.cs_trace_lines.specs.Versions.{profile_of}
use Rattle.cs_micro.specs.Micros.{Micros}
use Rattle.cs_plan.specs.Scenes.{micros_of, order_in}
use Rattle.cs_sets.specs.declared.row.Row.{Row}
use Rattle.cs_sets.specs.Chains.{IsBackward}
use Rattle.cs_sets.specs.Different.{firsts, state_of}
use Rattle.cs_sets.specs.Every.{every}
use Rattle.cs_sets.specs.Places.{places_of}
use Rattle.cs_sets.specs.Following.{chosen}
use Rattle.cs_sets.specs.Rows.{bit_in, needed_in}
use Rattle.cs_sets.specs.Sets.{IsAllowed}
use Rattle.cs_different.specs.Sets.{AreDifferent, IsLeavable, LeaveSame, leave_same}
use Rattle.cs_different.specs.Seen.{none_seen, see}
use Rattle.cs_different.specs.Wants.{Wants}
use Rattle.cs_different.specs.Refusals.{IsRefused}
use Rattle.cs_different.specs.declared.classes.TheConstants.{CLASSES}
use Rattle.cs_different.specs.declared.fault.DifferentFault.{DifferentFault}
use Rattle.cs_different.specs.declared.fault.DifferentFault.TheVariants.{Memory, More, TooMany}
use Rattle.cs_different.proofs.Gluing.{AreColumns, classes_found, columns_at, columns_backward, columns_same, err_weaker, law_by, leavable}
use Rattle.cs_different.proofs.Alike.{left_is_like, left_told}
use Rattle.cs_different.proofs.Firsts.{firsts_are}
use Rattle.cs_different.proofs.different.different_sets.Goals as goal

pub class_sets-requires-clause-backward : goal.class_sets-requires-clause-backward
class_sets-requires-clause-backward c =
    let s = c.args.scene.now in
    let needs = needs_in (order_in s) in
    let n = length (order_in s) in
    let back : IsBackward needs = subst IsBackward (ap needs_in c.order-order.ensures.value) c.len.ensures.backward in
    let rows = c.as_slice-2.result.now in
    let cols : AreColumns needs n rows =
    columns_at (order_in s) c.order-order.result.now rows c.in_ok-needed.needed.items c.as_slice-2.ensures.value c.in_ok-needed.ensures.long
    c.in_ok-needed.ensures.chains c.order-order.ensures.value in
    columns_backward needs back n rows cols

pub returns-in_err-classes-clause-refused : goal.returns-in_err-classes-clause-refused
returns-in_err-classes-clause-refused c =
    let s = c.args.scene.now in
    let needs = needs_in (order_in s) in
    let n = length (order_in s) in
    let back : IsBackward needs = subst IsBackward (ap needs_in c.order-order.ensures.value) c.len.ensures.backward in
    let rows = c.as_slice-2.result.now in
    let cols : AreColumns needs n rows =
    columns_at (order_in s) c.order-order.result.now rows c.in_ok-needed.needed.items c.as_slice-2.ensures.value c.in_ok-needed.ensures.long
    c.in_ok-needed.ensures.chains c.order-order.ensures.value in
    let P : DifferentFault → Type 0 = λ fault. (fault ≡ Memory) ⊎ ((fault ≡ TooMany) × (CLASSES < length (every (needed_in rows) (length
    rows)))) in
    let known : IfErr c.from_residual-in_err-classes.result P = search rules in
    let all : every (needed_in rows) (length rows) ≡ every needs n = ap (every (needed_in rows)) cols.long ∙ columns_same needs back n rows
    cols in
    err_weaker {P = P} {Q = IsRefused s c.args.most} c.from_residual-in_err-classes.result (λ fault h. ⊎_elim
    (λ (m : fault ≡ Memory). inl m)
    (λ (w : (fault ≡ TooMany) × (CLASSES < length (every (needed_in rows) (length rows)))).
    inr (inl (w.0, subst (λ v. CLASSES < length v) all w.1)))
    h) known

pub firsts_of-requires-clause-sets : goal.firsts_of-requires-clause-sets
firsts_of-requires-clause-sets c =
    let s = c.args.scene.now in
    let needs = needs_in (order_in s) in
    let n = length (order_in s) in
    let back : IsBackward needs = subst IsBackward (ap needs_in c.order-order.ensures.value) c.len.ensures.backward in
    let rows = c.as_slice-2.result.now in
    let cols : AreColumns needs n rows =
    columns_at (order_in s) c.order-order.result.now rows c.in_ok-needed.needed.items c.as_slice-2.ensures.value c.in_ok-needed.ensures.long
    c.in_ok-needed.ensures.chains c.order-order.ensures.value in
    let wants = bit_in c.as_slice.result.now in
    let are : (z k : ℕ) → wants z k ≡ true → Wants s z k =
    (λ z k t. c.in_ok-wanted.ensures.wants z k (ap (λ r. bit_in r z k) (sym c.as_slice.ensures.value) ∙ t)) in
    let long : length (order_in s) ≡ length (micros_of s).ops =
    ap length (sym c.order-order.ensures.value) ∙ c.order-order.ensures.long in
    let told : (p : List ℕ) → IsAllowed needs n p ↔ IsLeavable s p =
    subst (λ (m : Micros). (p : List ℕ) → IsAllowed (needs_in (order_of m)) (length (order_of m)) p
    ↔ IsAllowed (needs_of m) (length m.ops) p) c.micros.ensures
    (c.rules_are_sentences.ensures.sets (profile_of c.micros.result.now.version)) in
    let law : (places : List ℕ) → IsAllowed needs n places
    → LeaveSame s places (chosen (state_of (see wants) none_seen places) n) =
    (λ places allowed. law_by s wants needs back n long places allowed are (λ p h. (told p).0 h)) in
    let all = leavable s wants needs n rows cols back law c.in_ok-classes.classes.items c.in_ok-classes.ensures.allowed in
    subst (All (λ (row : Row). IsLeavable s (places_of row))) (sym c.as_slice-3.ensures.value) (λ k d low. (told _).0 (all k d low))

pub returns-in_err-sets-clause-refused : goal.returns-in_err-sets-clause-refused
returns-in_err-sets-clause-refused c =
    let s = c.args.scene.now in
    let needs = needs_in (order_in s) in
    let n = length (order_in s) in
    let back : IsBackward needs = subst IsBackward (ap needs_in c.order-order.ensures.value) c.len.ensures.backward in
    let rows = c.as_slice-2.result.now in
    let cols : AreColumns needs n rows =
    columns_at (order_in s) c.order-order.result.now rows c.in_ok-needed.needed.items c.as_slice-2.ensures.value c.in_ok-needed.ensures.long
    c.in_ok-needed.ensures.chains c.order-order.ensures.value in
    let wants = bit_in c.as_slice.result.now in
    let are : (z k : ℕ) → wants z k ≡ true → Wants s z k =
    (λ z k t. c.in_ok-wanted.ensures.wants z k (ap (λ r. bit_in r z k) (sym c.as_slice.ensures.value) ∙ t)) in
    let long : length (order_in s) ≡ length (micros_of s).ops =
    ap length (sym c.order-order.ensures.value) ∙ c.order-order.ensures.long in
    let told : (p : List ℕ) → IsAllowed needs n p ↔ IsLeavable s p =
    subst (λ (m : Micros). (p : List ℕ) → IsAllowed (needs_in (order_of m)) (length (order_of m)) p
    ↔ IsAllowed (needs_of m) (length m.ops) p) c.micros.ensures
    (c.rules_are_sentences.ensures.sets (profile_of c.micros.result.now.version)) in
    let law : (places : List ℕ) → IsAllowed needs n places
    → LeaveSame s places (chosen (state_of (see wants) none_seen places) n) =
    (λ places allowed. law_by s wants needs back n long places allowed are (λ p h. (told p).0 h)) in
    let same : firsts (leave_same s) (map places_of c.as_slice-3.result.now) ≡ firsts (leave_same s) (every needs n) =
    ap (λ (r : List Row). firsts (leave_same s) (map places_of r)) c.as_slice-3.ensures.value
    ∙ classes_found s wants needs n rows cols back law c.in_ok-classes.classes.items c.in_ok-classes.ensures.allowed
    c.in_ok-classes.ensures.firsts in
    let P : DifferentFault → Type 0 = λ fault. (fault ≡ Memory)
    ⊎ ((fault ≡ More c.args.most) × (c.args.most < length (firsts (leave_same s) (map places_of c.as_slice-3.result.now)))) in
    let known : IfErr c.from_residual-in_err-sets.result P = search rules in
    err_weaker {P = P} {Q = IsRefused s c.args.most} c.from_residual-in_err-sets.result (λ fault h. ⊎_elim
    (λ (m : fault ≡ Memory). inl m)
    (λ (w : (fault ≡ More c.args.most) × (c.args.most < length (firsts (leave_same s) (map places_of c.as_slice-3.result.now)))).
    inr (inr (
      w.0,
      (
        firsts (leave_same s) (every needs n),
        (
          firsts_are (leave_same s) (left_is_like s) (LeaveSame s) (left_told s) needs back n,
          subst (λ v. c.args.most < length v) same w.1,
        ),
      ),
    )))
    h) known

pub returns-clause-different : goal.returns-clause-different
returns-clause-different c =
    let s = c.args.scene.now in
    let needs = needs_in (order_in s) in
    let n = length (order_in s) in
    let back : IsBackward needs = subst IsBackward (ap needs_in c.order-order.ensures.value) c.len.ensures.backward in
    let rows = c.as_slice-2.result.now in
    let cols : AreColumns needs n rows =
    columns_at (order_in s) c.order-order.result.now rows c.in_ok-needed.needed.items c.as_slice-2.ensures.value c.in_ok-needed.ensures.long
    c.in_ok-needed.ensures.chains c.order-order.ensures.value in
    let wants = bit_in c.as_slice.result.now in
    let are : (z k : ℕ) → wants z k ≡ true → Wants s z k =
    (λ z k t. c.in_ok-wanted.ensures.wants z k (ap (λ r. bit_in r z k) (sym c.as_slice.ensures.value) ∙ t)) in
    let long : length (order_in s) ≡ length (micros_of s).ops =
    ap length (sym c.order-order.ensures.value) ∙ c.order-order.ensures.long in
    let told : (p : List ℕ) → IsAllowed needs n p ↔ IsLeavable s p =
    subst (λ (m : Micros). (p : List ℕ) → IsAllowed (needs_in (order_of m)) (length (order_of m)) p
    ↔ IsAllowed (needs_of m) (length m.ops) p) c.micros.ensures
    (c.rules_are_sentences.ensures.sets (profile_of c.micros.result.now.version)) in
    let law : (places : List ℕ) → IsAllowed needs n places
    → LeaveSame s places (chosen (state_of (see wants) none_seen places) n) =
    (λ places allowed. law_by s wants needs back n long places allowed are (λ p h. (told p).0 h)) in
    let same : firsts (leave_same s) (map places_of c.as_slice-3.result.now) ≡ firsts (leave_same s) (every needs n) =
    ap (λ (r : List Row). firsts (leave_same s) (map places_of r)) c.as_slice-3.ensures.value
    ∙ classes_found s wants needs n rows cols back law c.in_ok-classes.classes.items c.in_ok-classes.ensures.allowed
    c.in_ok-classes.ensures.firsts in
    subst (AreDifferent s) (sym (c.in_ok-sets.ensures.firsts ∙ same))
    (firsts_are (leave_same s) (left_is_like s) (LeaveSame s) (left_told s) needs back n)
