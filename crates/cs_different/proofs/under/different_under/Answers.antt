use Rattle.std.proofs.Common.{rules, ◌≡◌, true, false, ◌⊎◌, ◌↔◌, ◌<◌, ◌+◌, ℕ, List, IfErr, inl, inr, sym, ap, ◌∙◌}
use Rattle.std.proofs.Common.{⊎_elim, length, map, subst}
use Rattle.std.specs.List.{All, filter}
use Rattle.cs_apm.specs.Orders.{needs_by, order_by}
use Rattle.cs_trace_lines.specs.Versions.{profile_of}
use Rattle.cs_micro.specs.Micros.{Micros}
use Rattle.cs_plan.specs.Scenes.{micros_of}
use Rattle.cs_sets.specs.Chains.{IsBackward}
use Rattle.cs_sets.specs.Different.{firsts}
use Rattle.cs_sets.specs.Every.{every}
use Rattle.cs_sets.specs.Orders.{needs_in}
use Rattle.cs_sets.specs.Places.{places_of}
use Rattle.cs_sets.specs.Rows.{bit_in, needed_in}
use Rattle.cs_sets.specs.Sets.{IsAllowed}
use Rattle.cs_different.specs.Members.{firsts_under, has_seconds, members_under, order_under, stricter}
use Rattle.cs_different.specs.Sets.{leave_same}
use Rattle.cs_different.specs.Under.{AreDifferentUnder, IsRefusedUnder, every_under}
use Rattle.cs_different.specs.Wants.{Wants}
use Rattle.cs_different.specs.declared.classes.TheConstants.{CLASSES}
use Rattle.cs_different.specs.declared.fault.DifferentFault.{DifferentFault}
use Rattle.cs_different.specs.declared.fault.DifferentFault.TheVariants.{Memory, More, TooMany}
use Rattle.cs_different.proofs.Gluing.{AreColumns, columns_at, columns_backward, columns_same, err_weaker}
use Rattle.cs_different.proofs.ProfileSets.{different_members, kept_found, kept_leavable, order_long}
use Rattle.cs_different.proofs.under.different_under.Goals as goal

pub class_sets-requires-clause-backward : goal.class_sets-requires-clause-backward
class_sets-requires-clause-backward c =
    let s = c.args.scene.now in
    let f = c.args.profile in
    let known = order_under s f in
    let needs = needs_in known in
    let n = length known in
    let back : IsBackward needs = subst IsBackward (ap needs_in c.in_ok-members.ensures.order) c.len.ensures.backward in
    let rows = c.as_slice-2.result.now in
    let cols : AreColumns needs n rows =
    columns_at known c.in_ok-members.members.order rows c.in_ok-needed.needed.items c.as_slice-2.ensures.value
    c.in_ok-needed.ensures.long c.in_ok-needed.ensures.chains c.in_ok-members.ensures.order in
    columns_backward needs back n rows cols

pub class_sets-requires-clause-wanted : goal.class_sets-requires-clause-wanted
class_sets-requires-clause-wanted c =
    ap length c.as_slice.ensures.value ∙ c.show_halves.ensures.long ∙ c.in_ok-wanted.ensures.long
    ∙ sym (ap length c.as_slice-2.ensures.value ∙ c.in_ok-needed.ensures.long ∙ ap length c.in_ok-members.ensures.order
    ∙ order_long c.args.scene.now c.args.profile)

pub returns-in_err-classes-clause-refused : goal.returns-in_err-classes-clause-refused
returns-in_err-classes-clause-refused c =
    let s = c.args.scene.now in
    let f = c.args.profile in
    let known = order_under s f in
    let needs = needs_in known in
    let n = length known in
    let back : IsBackward needs = subst IsBackward (ap needs_in c.in_ok-members.ensures.order) c.len.ensures.backward in
    let rows = c.as_slice-2.result.now in
    let cols : AreColumns needs n rows =
    columns_at known c.in_ok-members.members.order rows c.in_ok-needed.needed.items c.as_slice-2.ensures.value
    c.in_ok-needed.ensures.long c.in_ok-needed.ensures.chains c.in_ok-members.ensures.order in
    let P : DifferentFault → Type 0 = λ fault. (fault ≡ Memory)
    ⊎ ((fault ≡ TooMany) × (CLASSES < length (every (needed_in rows) (length rows)))) in
    let given : IfErr c.from_residual-in_err-classes.result P = search rules in
    let all : every (needed_in rows) (length rows) ≡ every_under s f =
    ap (every (needed_in rows)) cols.long ∙ columns_same needs back n rows cols in
    err_weaker {P = P} {Q = IsRefusedUnder s f c.args.most} c.from_residual-in_err-classes.result (λ fault h. ⊎_elim
    (λ (m : fault ≡ Memory). inl m)
    (λ (w : (fault ≡ TooMany) × (CLASSES < length (every (needed_in rows) (length rows)))).
    inr (inl (w.0, subst (λ v. CLASSES < length v) all w.1)))
    h) given

pub firsts_of-requires-clause-sets : goal.firsts_of-requires-clause-sets
firsts_of-requires-clause-sets c =
    let s = c.args.scene.now in
    let f = c.args.profile in
    let known = order_under s f in
    let needs = needs_in known in
    let n = length known in
    let back : IsBackward needs = subst IsBackward (ap needs_in c.in_ok-members.ensures.order) c.len.ensures.backward in
    let rows = c.as_slice-2.result.now in
    let cols : AreColumns needs n rows =
    columns_at known c.in_ok-members.members.order rows c.in_ok-needed.needed.items c.as_slice-2.ensures.value
    c.in_ok-needed.ensures.long c.in_ok-needed.ensures.chains c.in_ok-members.ensures.order in
    let told : (p : List ℕ) → IsAllowed needs n p ↔ IsAllowed (needs_by (micros_of s) (stricter f (profile_of (micros_of s).version)))
    (length (micros_of s).ops) p =
    subst (λ (m : Micros). (p : List ℕ) → IsAllowed (needs_in (order_by m (stricter f (profile_of m.version))))
    (length (order_by m (stricter f (profile_of m.version)))) p
    ↔ IsAllowed (needs_by m (stricter f (profile_of m.version))) (length m.ops) p) c.micros.ensures
    (c.rules_are_sentences.ensures.sets (stricter f (profile_of c.micros.result.now.version))) in
    let halves : c.as_slice-firsts.result.now ≡ firsts_under (micros_of s).ops f =
    c.as_slice-firsts.ensures.value ∙ c.in_ok-members.ensures.firsts in
    let wants = bit_in c.as_slice.result.now in
    let shown : (z k : ℕ) → wants z k ≡ bit_in c.show_halves.new.wanted.items z k =
    (λ z k. ap (λ r. bit_in r z k) c.as_slice.ensures.value) in
    let are : (z k : ℕ) → wants z k ≡ true → Wants s z k =
    (λ z k t. c.in_ok-wanted.ensures.wants z k (c.show_halves.ensures.less z k (sym (shown z k) ∙ t))) in
    let one : All (λ i. (z : ℕ) → wants z i ≡ false) (firsts_under (micros_of s).ops f) =
    subst (All (λ i. (z : ℕ) → wants z i ≡ false)) halves (λ k d low z. shown z _ ∙ c.show_halves.ensures.first k d low z) in
    let two : All (λ i. (z : ℕ) → wants z (i + 1) ≡ false) (firsts_under (micros_of s).ops f) =
    subst (All (λ i. (z : ℕ) → wants z (i + 1) ≡ false)) halves (λ k d low z. shown z _ ∙ c.show_halves.ensures.second k d low z) in
    let passed : c.as_slice-4.result.now
    ≡ filter (λ row. has_seconds (firsts_under (micros_of s).ops f) (places_of row)) c.in_ok-classes.classes.items =
    c.as_slice-4.ensures.value ∙ c.in_ok-kept.ensures
    ∙ (λ i. filter (λ row. has_seconds (halves i) (places_of row)) (c.as_slice-3.ensures.value i)) in
    kept_leavable s f told back wants are rows cols (order_long s f) one two c.in_ok-classes.classes.items c.as_slice-4.result.now
    c.in_ok-classes.ensures.allowed passed

pub returns-in_err-sets-clause-refused : goal.returns-in_err-sets-clause-refused
returns-in_err-sets-clause-refused c =
    let s = c.args.scene.now in
    let f = c.args.profile in
    let known = order_under s f in
    let needs = needs_in known in
    let n = length known in
    let back : IsBackward needs = subst IsBackward (ap needs_in c.in_ok-members.ensures.order) c.len.ensures.backward in
    let rows = c.as_slice-2.result.now in
    let cols : AreColumns needs n rows =
    columns_at known c.in_ok-members.members.order rows c.in_ok-needed.needed.items c.as_slice-2.ensures.value
    c.in_ok-needed.ensures.long c.in_ok-needed.ensures.chains c.in_ok-members.ensures.order in
    let told : (p : List ℕ) → IsAllowed needs n p ↔ IsAllowed (needs_by (micros_of s) (stricter f (profile_of (micros_of s).version)))
    (length (micros_of s).ops) p =
    subst (λ (m : Micros). (p : List ℕ) → IsAllowed (needs_in (order_by m (stricter f (profile_of m.version))))
    (length (order_by m (stricter f (profile_of m.version)))) p
    ↔ IsAllowed (needs_by m (stricter f (profile_of m.version))) (length m.ops) p) c.micros.ensures
    (c.rules_are_sentences.ensures.sets (stricter f (profile_of c.micros.result.now.version))) in
    let halves : c.as_slice-firsts.result.now ≡ firsts_under (micros_of s).ops f =
    c.as_slice-firsts.ensures.value ∙ c.in_ok-members.ensures.firsts in
    let wants = bit_in c.as_slice.result.now in
    let shown : (z k : ℕ) → wants z k ≡ bit_in c.show_halves.new.wanted.items z k =
    (λ z k. ap (λ r. bit_in r z k) c.as_slice.ensures.value) in
    let are : (z k : ℕ) → wants z k ≡ true → Wants s z k =
    (λ z k t. c.in_ok-wanted.ensures.wants z k (c.show_halves.ensures.less z k (sym (shown z k) ∙ t))) in
    let one : All (λ i. (z : ℕ) → wants z i ≡ false) (firsts_under (micros_of s).ops f) =
    subst (All (λ i. (z : ℕ) → wants z i ≡ false)) halves (λ k d low z. shown z _ ∙ c.show_halves.ensures.first k d low z) in
    let two : All (λ i. (z : ℕ) → wants z (i + 1) ≡ false) (firsts_under (micros_of s).ops f) =
    subst (All (λ i. (z : ℕ) → wants z (i + 1) ≡ false)) halves (λ k d low z. shown z _ ∙ c.show_halves.ensures.second k d low z) in
    let passed : c.as_slice-4.result.now
    ≡ filter (λ row. has_seconds (firsts_under (micros_of s).ops f) (places_of row)) c.in_ok-classes.classes.items =
    c.as_slice-4.ensures.value ∙ c.in_ok-kept.ensures
    ∙ (λ i. filter (λ row. has_seconds (halves i) (places_of row)) (c.as_slice-3.ensures.value i)) in
    let same : firsts (leave_same s) (map places_of c.as_slice-4.result.now) ≡ firsts (leave_same s) (members_under s f) =
    kept_found s f told back wants are rows cols (order_long s f) one two c.in_ok-classes.classes.items c.as_slice-4.result.now
    c.in_ok-classes.ensures.allowed c.in_ok-classes.ensures.firsts passed in
    let P : DifferentFault → Type 0 = λ fault. (fault ≡ Memory)
    ⊎ ((fault ≡ More c.args.most) × (c.args.most < length (firsts (leave_same s) (map places_of c.as_slice-4.result.now)))) in
    let given : IfErr c.from_residual-in_err-sets.result P = search rules in
    err_weaker {P = P} {Q = IsRefusedUnder s f c.args.most} c.from_residual-in_err-sets.result (λ fault h. ⊎_elim
    (λ (m : fault ≡ Memory). inl m)
    (λ (w : (fault ≡ More c.args.most) × (c.args.most < length (firsts (leave_same s) (map places_of c.as_slice-4.result.now)))).
    inr (inr (
      w.0,
      (firsts (leave_same s) (members_under s f), (different_members s f told back, subst (λ v. c.args.most < length v) same w.1)),
    )))
    h) given

pub returns-clause-different : goal.returns-clause-different
returns-clause-different c =
    let s = c.args.scene.now in
    let f = c.args.profile in
    let known = order_under s f in
    let needs = needs_in known in
    let n = length known in
    let back : IsBackward needs = subst IsBackward (ap needs_in c.in_ok-members.ensures.order) c.len.ensures.backward in
    let rows = c.as_slice-2.result.now in
    let cols : AreColumns needs n rows =
    columns_at known c.in_ok-members.members.order rows c.in_ok-needed.needed.items c.as_slice-2.ensures.value
    c.in_ok-needed.ensures.long c.in_ok-needed.ensures.chains c.in_ok-members.ensures.order in
    let told : (p : List ℕ) → IsAllowed needs n p ↔ IsAllowed (needs_by (micros_of s) (stricter f (profile_of (micros_of s).version)))
    (length (micros_of s).ops) p =
    subst (λ (m : Micros). (p : List ℕ) → IsAllowed (needs_in (order_by m (stricter f (profile_of m.version))))
    (length (order_by m (stricter f (profile_of m.version)))) p
    ↔ IsAllowed (needs_by m (stricter f (profile_of m.version))) (length m.ops) p) c.micros.ensures
    (c.rules_are_sentences.ensures.sets (stricter f (profile_of c.micros.result.now.version))) in
    let halves : c.as_slice-firsts.result.now ≡ firsts_under (micros_of s).ops f =
    c.as_slice-firsts.ensures.value ∙ c.in_ok-members.ensures.firsts in
    let wants = bit_in c.as_slice.result.now in
    let shown : (z k : ℕ) → wants z k ≡ bit_in c.show_halves.new.wanted.items z k =
    (λ z k. ap (λ r. bit_in r z k) c.as_slice.ensures.value) in
    let are : (z k : ℕ) → wants z k ≡ true → Wants s z k =
    (λ z k t. c.in_ok-wanted.ensures.wants z k (c.show_halves.ensures.less z k (sym (shown z k) ∙ t))) in
    let one : All (λ i. (z : ℕ) → wants z i ≡ false) (firsts_under (micros_of s).ops f) =
    subst (All (λ i. (z : ℕ) → wants z i ≡ false)) halves (λ k d low z. shown z _ ∙ c.show_halves.ensures.first k d low z) in
    let two : All (λ i. (z : ℕ) → wants z (i + 1) ≡ false) (firsts_under (micros_of s).ops f) =
    subst (All (λ i. (z : ℕ) → wants z (i + 1) ≡ false)) halves (λ k d low z. shown z _ ∙ c.show_halves.ensures.second k d low z) in
    let passed : c.as_slice-4.result.now
    ≡ filter (λ row. has_seconds (firsts_under (micros_of s).ops f) (places_of row)) c.in_ok-classes.classes.items =
    c.as_slice-4.ensures.value ∙ c.in_ok-kept.ensures
    ∙ (λ i. filter (λ row. has_seconds (halves i) (places_of row)) (c.as_slice-3.ensures.value i)) in
    let same : firsts (leave_same s) (map places_of c.as_slice-4.result.now) ≡ firsts (leave_same s) (members_under s f) =
    kept_found s f told back wants are rows cols (order_long s f) one two c.in_ok-classes.classes.items c.as_slice-4.result.now
    c.in_ok-classes.ensures.allowed c.in_ok-classes.ensures.firsts passed in
    subst (AreDifferentUnder s f) (sym (c.in_ok-sets.ensures.firsts ∙ same)) (different_members s f told back)
