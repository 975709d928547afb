-- Which moves of directories a set keeps: the first so many.
use Rattle.std.proofs.Common.{◌≡◌, ◌≢◌, ℕ, zero, suc, ◌+◌, ◌<◌, ◌≤◌, ◌&&◌, ◌||◌, Bool, true, false, cond, List, [], ◌∷◌, refl, sym}
use Rattle.std.proofs.Common.{ap, ◌∙◌, subst, arith, ⊎_elim, length, map}
use Rattle.std.proofs.lemmas.Bool.{cases_Bool, cases_eq, false≢true, lt-ltb, or_right}
use Rattle.std.specs.Prelude.{fold}
use Rattle.cs_entries.specs.Entries.{EntryOp}
use Rattle.cs_entries.specs.Rules.{IsClosed, empties, makes_directory, moves_directory, shares_entry}
use Rattle.cs_entries.specs.Rules as entries
use Rattle.cs_trace_lines.specs.Versions.{profile_of}
use Rattle.cs_micro.specs.Legal.{entry_op}
use Rattle.cs_micro.specs.Micros.{Micros}
use Rattle.cs_micro.specs.declared.micro_op.MicroOp.{MicroOp}
use Rattle.cs_sets.specs.Sets.{IsAllowed, is_member}
use Rattle.cs_apm.specs.Orders.{needs_of}
use Rattle.cs_apm.specs.Rules.{entry_op_at, op_at}
use Rattle.cs_apm.specs.Laws.Members.{members_run, run}
use Rattle.cs_apm.specs.Laws.Trees.{entries_closed}
use Rattle.cs_paths.specs.PathOrders.{directory_moves, moves_kept}
use Rattle.cs_paths.proofs.Counted.{passing, passing_suc, weight}

-- two moves of directories need each other, the later the earlier
needs_moves : (ops : ℕ → EntryOp) (i j : ℕ) → i < j → moves_directory (ops i) ≡ true → moves_directory (ops j) ≡ true
    → entries.needs ops i j ≡ true
needs_moves ops i j lt first second =
    let both : (moves_directory (ops i) && moves_directory (ops j)) ≡ true = λ w. first w && second w in
    let any =
    or_right (shares_entry (ops i) (ops j) || makes_directory ops i j || empties (ops i) (ops j))
    (moves_directory (ops i) && moves_directory (ops j)) both in
    λ w. lt-ltb i j lt w && any w

-- one more is kept if it moves a directory
abbrev counted : ℕ → MicroOp → ℕ
counted c o = c + cond (moves_directory (entry_op o)) 1 0

module _ (m : Micros) (places : List ℕ) (allowed : IsAllowed (needs_of m) (length m.ops) places) where
  abbrev n : ℕ
  n = length m.ops

  abbrev has : ℕ → Bool
  has = is_member places

  abbrev moves : ℕ → Bool
  moves k = moves_directory (entry_op_at m.ops k)

  -- how many of the first k move a directory and are members
  abbrev kept : ℕ → ℕ
  kept k = run counted has 0 m.ops k

  abbrev t : ℕ
  t = moves_kept m.ops places

  -- ---- counting

  folded : (c : ℕ) (ks : List ℕ) → fold counted c (map (op_at m.ops) ks) ≡ c + moves_kept m.ops ks
  folded c [] = omega arith
  folded c (k ∷ ks) =
      (let rest = folded (counted c (op_at m.ops k)) ks in rest ∙ regroup c (cond (moves k) 1 0) (moves_kept m.ops ks))
    where
      regroup : (a b d : ℕ) → (a + b) + d ≡ a + (b + d)
      regroup a b d = omega arith

  all_kept : t ≡ kept n
  all_kept =
      (let from = folded 0 places in let z : 0 + t ≡ t = omega arith in
      sym (from ∙ z) ∙ members_run counted 0 m.ops n places allowed.ascending allowed.in_range)

  member : (k : ℕ) → has k ≡ true → kept (suc k) ≡ kept k + cond (moves k) 1 0
  member k is = ap (λ b. cond b (kept k + cond (moves k) 1 0) (kept k)) is

  other : (k : ℕ) → has k ≡ false → kept (suc k) ≡ kept k
  other k is = ap (λ b. cond b (kept k + cond (moves k) 1 0) (kept k)) is

  idle : (k : ℕ) → moves k ≡ false → kept (suc k) ≡ kept k
  idle k still = ⊎_elim
      (λ (is : has k ≡ true).
      (let one : weight (moves k) ≡ 0 = ap weight still in let more = member k is in omega (arith, one, more)))
      (λ (is : has k ≡ false). other k is)
      (cases_Bool (has k))

  kept_up : (j k : ℕ) → j ≤ k → kept j ≤ kept k
  kept_up j zero le = (let z : j ≡ 0 = omega (arith, le) in subst (λ i. kept i ≤ kept 0) (sym z) (omega arith))
  kept_up j (suc k) le = ⊎_elim
      (λ (e : j ≡ suc k). subst (λ i. kept i ≤ kept (suc k)) (sym e) (omega arith))
      (λ (e : j ≢ suc k).
      (let before = kept_up j k (omega (arith, le, e)) in
      let step : kept k ≤ kept (suc k) = ⊎_elim
      (λ (is : has k ≡ true). (let more = member k is in omega (arith, more)))
      (λ (is : has k ≡ false). (let same = other k is in omega (arith, same)))
      (cases_Bool (has k)) in
      omega (arith, before, step)))
      (cases_eq j (suc k))

  -- if all moves of directories before k are members, as many are kept as there are
  as_many : (k : ℕ) → ((i : ℕ) → i < k → moves i ≡ true → has i ≡ true) → kept k ≡ passing moves k
  as_many zero all = refl
  as_many (suc k) all =
      (let before = as_many k (λ i lt is. all i (omega (arith, lt)) is) in let next = passing_suc moves k in ⊎_elim
      (λ (is : moves k ≡ true).
      (let more = member k (all k (omega arith) is) in omega (arith, before, next, more)))
      (λ (still : moves k ≡ false).
      (let one : weight (moves k) ≡ 0 = ap weight still in let same = idle k still in omega (arith, before, next, one, same)))
      (cases_Bool (moves k)))

  -- and if none from j on is, no more are kept
  no_more : (j k : ℕ) → j ≤ k → ((i : ℕ) → j ≤ i → i < k → moves i ≡ true → has i ≡ false) → kept k ≡ kept j
  no_more j zero le none = (let z : 0 ≡ j = omega (arith, le) in ap kept z)
  no_more j (suc k) le none = ⊎_elim
      (λ (e : j ≡ suc k). ap kept (sym e))
      (λ (e : j ≢ suc k).
      (let before = no_more j k (omega (arith, le, e)) (λ i from lt is. none i from (omega (arith, lt)) is) in
      ⊎_elim
      (λ (is : moves k ≡ true). other k (none k (omega (arith, le, e)) (omega arith) is) ∙ before)
      (λ (still : moves k ≡ false). idle k still ∙ before)
      (cases_Bool (moves k))))
      (cases_eq j (suc k))

  kept_few : (k : ℕ) → kept k ≤ passing moves k
  kept_few zero = omega arith
  kept_few (suc k) =
      (let before = kept_few k in let next = passing_suc moves k in ⊎_elim
      (λ (here : has k ≡ true). (let more = member k here in omega (arith, before, next, more)))
      (λ (out : has k ≡ false). (let same = other k out in omega (arith, before, next, same)))
      (cases_Bool (has k)))

  -- ---- the first so many

  closed : IsClosed (entries.needs (entry_op_at m.ops)) has
  closed = entries_closed m.ops m.syncs m.version (profile_of m.version) n places allowed

  pub first_kept : (i j : ℕ) → i < j → moves i ≡ true → moves j ≡ true → has j ≡ true → has i ≡ true
  first_kept i j lt first second is = closed i j is (needs_moves (entry_op_at m.ops) i j lt first second)

  -- a move that the set keeps is one of the first t
  pub kept_low : (k : ℕ) → k < n → moves k ≡ true → has k ≡ true → passing moves k < t
  kept_low k lt is here =
      let before = as_many k (λ i low first. first_kept i k low first is here) in
      let more = member k here in let one : weight (moves k) ≡ 1 = ap weight is in
      let up = kept_up (suc k) n (omega (arith, lt)) in
      let whole = all_kept in omega (arith, before, more, one, up, whole)

  -- and one that it doesn't keep isn't
  pub other_high : (k : ℕ) → k < n → moves k ≡ true → has k ≡ false → t ≤ passing moves k
  other_high k lt is gone =
      let rest = no_more k n (omega (arith, lt)) (λ i from low later. later_out i from later) in
      let whole = all_kept in let few = kept_few k in omega (arith, rest, whole, few)
    where
      later_out : (i : ℕ) → k ≤ i → moves i ≡ true → has i ≡ false
      later_out i from later = ⊎_elim
          (λ (e : k ≡ i). ap has (sym e) ∙ gone)
          (λ (e : k ≢ i). ⊎_elim
          (λ (here : has i ≡ true). absurd (false≢true (sym gone ∙ first_kept k i (omega (arith, from, e)) is later here)))
          (λ (out : has i ≡ false). out)
          (cases_Bool (has i)))
          (cases_eq k i)

  -- there are as many moves at least
  pub low : t ≤ length (directory_moves m.ops)
  low =
      let whole = all_kept in let few = kept_few n in omega (arith, whole, few)
