-- What a set leaves, if the last of its members that pass a test decides it.
use Rattle.std.proofs.Common.{◌≡◌, ◌≢◌, ℕ, zero, suc, ◌-◌, ◌<◌, ◌≤◌, Bool, true, false, cond, List, refl, sym, ap, ◌∙◌, subst, arith}
use Rattle.std.proofs.Common.{⊎_elim, length, map}
use Rattle.std.proofs.lemmas.Bool.{cases_Bool, cases_eq, cases_lt, false≢true}
use Rattle.std.proofs.lemmas.List.{get_or_default, get_or_past}
use Rattle.std.specs.Prelude.{fold}
use Rattle.cs_micro.specs.declared.micro_op.MicroOp.{MicroOp}
use Rattle.cs_micro.specs.Micros.{Micros}
use Rattle.cs_apm.specs.Orders.{needs_of}
use Rattle.cs_apm.specs.Rules.{op_at}
use Rattle.cs_sets.specs.Sets.{IsAllowed}
use Rattle.cs_state.specs.Numbers.{kept_at, IsKept}
use Rattle.cs_state.specs.Shares.{numbers_that_pass, mark_at}
use Rattle.cs_state.specs.Steps.{members_in}
use Rattle.cs_state.proofs.Pages.{fold_ids, fold_map}
use Rattle.cs_paths.proofs.Listing.{ids_are, ids_have, ids_up}

-- what passes the test says all, and what doesn't leaves it
pub record IsSaidBy (S : Type 0) (after : S → MicroOp → S) (test : MicroOp → Bool) : Type 0 where
  pub kept : (s : S) (o : MicroOp) → test o ≡ false → after s o ≡ s
  pub said : (s t : S) (o : MicroOp) → test o ≡ true → after s o ≡ after t o

-- ---- an allowed set has the first few of those of which each needs the ones before it

mark_low : (marks : List Bool) (k : ℕ) → mark_at marks k ≡ true → k < length marks
mark_low marks k is = ⊎_elim
    (λ (low : k < length marks). low)
    (λ (high : length marks ≤ k). absurd (false≢true (sym (get_or_past marks k false high) ∙ is)))
    (cases_lt k (length marks))

module _ (micros : Micros) (n : ℕ) (members : List Bool) (allowed : IsAllowed (needs_of micros) n (members_in members))
    (test : MicroOp → Bool)
    (needed : (j k : ℕ) → j < k → test (op_at micros.ops j) ≡ true → test (op_at micros.ops k) ≡ true → needs_of micros j k ≡ true) where
  pub closed_under : (j k : ℕ) → j < k → mark_at members k ≡ true → test (op_at micros.ops j) ≡ true → test (op_at micros.ops k) ≡ true
      → mark_at members j ≡ true
  closed_under j k before here first second =
      let w = ids_have (mark_at members) (length members) k (mark_low members k here) here in
      let there = allowed.closed w.0 j w.1 (ap (needs_of micros j) w.2 ∙ needed j k before first second) in
      let is : kept_at (members_in members) there.0 ≡ j = get_or_default (members_in members) there.0 0 j there.1 ∙ there.2 in
      ap (mark_at members) (sym is) ∙ (ids_are (mark_at members) (length members) there.0 there.1).1

  pub first_under : (places : List ℕ) → places ≡ numbers_that_pass (λ k. test (op_at micros.ops k)) (length micros.ops)
      → (i j : ℕ) → i < j → j < length places → mark_at members (kept_at places j) ≡ true → mark_at members (kept_at places i) ≡ true
  first_under places are =
      subst (λ ks. (i j : ℕ) → i < j → j < length ks → mark_at members (kept_at ks j) ≡ true → mark_at members (kept_at ks i) ≡ true)
      (sym are) (λ i j less low here.
      let passes : ℕ → Bool = λ k. test (op_at micros.ops k) in
      closed_under (kept_at (numbers_that_pass passes (length micros.ops)) i) (kept_at (numbers_that_pass passes (length micros.ops)) j)
      (ids_up passes (length micros.ops) i j less low) here
      (ids_are passes (length micros.ops) i (omega (arith, less, low))).1 (ids_are passes (length micros.ops) j low).1)

-- ---- the last of them says all

module _ (S : Type 0) (after : S → MicroOp → S) (test : MicroOp → Bool) (says : IsSaidBy S after test) (start : S)
    (ops : List MicroOp) where
  module _ (has : ℕ → Bool) where
    abbrev left : ℕ → S
    left k = fold (λ s j. after s (op_at ops j)) start (numbers_that_pass has k)

    left_more : (k : ℕ) → left (suc k) ≡ cond (has k) (after (left k) (op_at ops k)) (left k)
    left_more k = fold_ids (λ s j. after s (op_at ops j)) start has k

    -- what is no member, or doesn't pass, leaves it
    left_kept : (k : ℕ) → (test (op_at ops k) ≡ true → has k ≡ false) → left (suc k) ≡ left k
    left_kept k none = left_more k ∙ ⊎_elim
        (λ (yes : test (op_at ops k) ≡ true). ap (λ b. cond b (after (left k) (op_at ops k)) (left k)) (none yes))
        (λ (not : test (op_at ops k) ≡ false). by (has k) (says.kept (left k) (op_at ops k) not))
        (cases_Bool (test (op_at ops k)))
      where
        by : (b : Bool) → after (left k) (op_at ops k) ≡ left k → cond b (after (left k) (op_at ops k)) (left k) ≡ left k
        by true same = same
        by false same = refl

    none_left : (k : ℕ) → ((j : ℕ) → j < k → test (op_at ops j) ≡ true → has j ≡ false) → left k ≡ start
    none_left zero none = refl
    none_left (suc k) none = left_kept k (none k (omega arith)) ∙ none_left k (λ j low. none j (omega (arith, low)))

    last_left : (k p : ℕ) → p < k → has p ≡ true → test (op_at ops p) ≡ true
        → ((j : ℕ) → p < j → j < k → test (op_at ops j) ≡ true → has j ≡ false) → left k ≡ after start (op_at ops p)
    last_left zero p low here is none = absurd (omega (arith, low))
    last_left (suc k) p low here is none = ⊎_elim
        (λ (same : p ≡ k).
        left_more k ∙ subst (λ j. cond (has j) (after (left k) (op_at ops j)) (left k) ≡ after start (op_at ops p)) same
        (ap (λ b. cond b (after (left k) (op_at ops p)) (left k)) here ∙ says.said (left k) start (op_at ops p) is))
        (λ (other : p ≢ k).
        left_kept k (none k (omega (arith, low, other)) (omega arith))
        ∙ last_left k p (omega (arith, low, other)) here is (λ j behind less. none j behind (omega (arith, less))))
        (cases_eq p k)

  module _ (members : List Bool) (places : List ℕ) (r : ℕ) (are : places ≡ numbers_that_pass (λ k. test (op_at ops k)) (length ops))
      (long : length members ≡ length ops)
      (bound : r ≤ length places) (low : (k : ℕ) → k < r → mark_at members (kept_at places k) ≡ true)
      (high : (k : ℕ) → r ≤ k → k < length places → mark_at members (kept_at places k) ≡ false) where
    abbrev passes : ℕ → Bool
    passes k = test (op_at ops k)

    found : (j : ℕ) → j < length members → passes j ≡ true → IsKept places j
    found j inside is = subst (λ ks. IsKept ks j) (sym are) (ids_have passes (length ops) j (omega (arith, inside, long)) is)

    is_one : (k : ℕ) → k < length places → (kept_at places k < length ops) × (passes (kept_at places k) ≡ true)
    is_one = subst (λ ks. (k : ℕ) → k < length ks → (kept_at ks k < length ops) × (passes (kept_at ks k) ≡ true)) (sym are)
        (ids_are passes (length ops))

    ascend : (i j : ℕ) → i < j → j < length places → kept_at places i < kept_at places j
    ascend = subst (λ ks. (i j : ℕ) → i < j → j < length ks → kept_at ks i < kept_at ks j) (sym are) (ids_up passes (length ops))

    pub no_last : r ≡ 0 → start ≡ fold after start (map (op_at ops) (members_in members))
    no_last none = sym (fold_map after (op_at ops) start (members_in members)
        ∙ none_left (mark_at members) (length members)
        (λ j inside is. let w = found j inside is in subst (λ k. mark_at members k ≡ false) w.2 (high w.0 (omega (arith, none)) w.1)))

    pub last_inside : 0 < r → kept_at places (r - 1) < length ops
    last_inside some = (is_one (r - 1) (omega (arith, some, bound))).0

    pub last_says : 0 < r → after start (op_at ops (kept_at places (r - 1))) ≡ fold after start (map (op_at ops) (members_in members))
    last_says some =
        let p = kept_at places (r - 1) in
        let w = is_one (r - 1) (omega (arith, some, bound)) in
        let inside = w.0 in
        sym (fold_map after (op_at ops) start (members_in members)
        ∙ last_left (mark_at members) (length members) p (omega (arith, inside, long)) (low (r - 1) (omega (arith, some))) w.1
        (λ j behind less is.
        let v = found j less is in
        let at = v.2 in
        ⊎_elim
        (λ (lt : v.0 < r). ⊎_elim
        (λ (same : v.0 ≡ r - 1). absurd (let e : kept_at places v.0 ≡ p = ap (kept_at places) same in omega (arith, e, at, behind)))
        (λ (other : v.0 ≢ r - 1). absurd
        (let up = ascend v.0 (r - 1) (omega (arith, lt, other)) (omega (arith, some, bound)) in omega (arith, up, at, behind)))
        (cases_eq v.0 (r - 1)))
        (λ (ge : r ≤ v.0). subst (λ k. mark_at members k ≡ false) at (high v.0 ge v.1))
        (cases_lt v.0 r)))
