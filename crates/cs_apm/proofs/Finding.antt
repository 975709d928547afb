-- What is found once: the latest making of a directory, the first sync that covers an operation, and
-- the first place behind it at which the log is forced.
use Rattle.std.proofs.Common.{◌≡◌, ◌≢◌, ℕ, suc, ◌+◌, ◌-◌, ◌<◌, ◌≤◌, ◌&&◌, ◌||◌, not, Bool, true, false, List, [], ◌∷◌, ◌++◌, Option, Some}
use Rattle.std.proofs.Common.{take, refl, sym, ap, ◌∙◌, subst, ⊎_elim, arith}
use Rattle.std.specs.Prelude.{nat_lt, nat_le}
use Rattle.std.proofs.lemmas.Bool.{cases_eq, eq-eqb, ne_eqb}
use Rattle.std.proofs.lemmas.List.Folds.{list_any-append}
use Rattle.std.specs.List.{list_any, range_with_len}
use Rattle.cs_entries.specs.Entries.{EntryOp}
use Rattle.cs_entries.specs.Rules as entry
use Rattle.cs_entries.specs.Rules.{is_latest, places_between}
use Rattle.cs_micro.specs.declared.micro_op.MicroOp.{MicroOp}
use Rattle.cs_micro.specs.declared.sync_point.SyncPoint.{SyncPoint}
use Rattle.cs_apm.specs.Rules.{is_covered, is_forced_between}
use Rattle.cs_apm.specs.Finding.{is_at, is_by}
use Rattle.cs_sets.specs.Laws.Lists.{range_end}

between_none : (k : ℕ) → places_between k (k + 1) ≡ []
between_none k = let e : k + 1 - (k + 1) ≡ 0 = omega arith in ap (range_with_len (k + 1)) e

between_more : (i k : ℕ) → i < k → places_between i (k + 1) ≡ places_between i k ++ k ∷ []
between_more i k low =
    let e : k + 1 - (i + 1) ≡ suc (k - (i + 1)) = omega (arith, low) in
    ap (range_with_len (i + 1)) e ∙ range_end (i + 1) (k - (i + 1)) k (omega (arith, low))

-- the latest making among the first k places
pub record IsLatestSoFar (ops : ℕ → EntryOp) (d : ℕ) (latest : Option ℕ) (k : ℕ) : Type 0 where
  pub found : (i : ℕ) → i < k → is_at latest i ≡ is_latest ops i k d
  pub low : (i : ℕ) → k ≤ i → is_at latest i ≡ false

never : (c x : Bool) → (c && not (x || true)) ≡ false
never true true = refl
never true false = refl
never false x = refl

still : (c x : Bool) → (c && not (x || false)) ≡ (c && not x)
still true true = refl
still true false = refl
still false x = refl

module _ (ops : ℕ → EntryOp) (d : ℕ) where
  abbrev makes : ℕ → Bool
  makes m = entry.makes (ops m) d

  latest_between : (i k : ℕ) (b : Bool) → i < k → makes k ≡ b
      → is_latest ops i (k + 1) d ≡ (makes i && not (list_any makes (places_between i k) || b))
  unfolding is_latest
  latest_between i k true low is =
      (λ w. makes i && not (list_any makes (between_more i k low w))) ∙ ap (λ v. makes i && not v)
      (list_any-append makes (places_between i k) (k ∷ []))
      ∙ ap (λ v. makes i && not (list_any makes (places_between i k) || (v || false))) is
  latest_between i k false low is =
      (λ w. makes i && not (list_any makes (between_more i k low w))) ∙ ap (λ v. makes i && not v)
      (list_any-append makes (places_between i k) (k ∷ []))
      ∙ ap (λ v. makes i && not (list_any makes (places_between i k) || (v || false))) is

  latest_last : (k : ℕ) → is_latest ops k (k + 1) d ≡ (makes k && true)
  unfolding is_latest
  latest_last k = λ w. makes k && not (list_any makes (between_none k w))

  unfolded : (i k : ℕ) → (makes i && not (list_any makes (places_between i k) || false)) ≡ is_latest ops i k d
  unfolding is_latest
  unfolded i k = still (makes i) (list_any makes (places_between i k))

  pub latest_here : (latest : Option ℕ) (k : ℕ) → makes k ≡ true → IsLatestSoFar ops d latest k → IsLatestSoFar ops d (Some k) (k + 1)
  latest_here latest k is so_far = record {
    found = λ i low. ⊎_elim
        (λ (e : k ≡ i). subst (λ v. is_at (Some k) v ≡ is_latest ops v (k + 1) d) e
        (eq-eqb k k refl ∙ sym (latest_last k ∙ ap (λ b. b && true) is)))
        (λ (e : k ≢ i). ne_eqb k i e ∙ sym
        (latest_between i k true (omega (arith, low, e)) is ∙ never (makes i) (list_any makes (places_between i k))))
        (cases_eq k i);
    low = λ i h. (let other : k ≢ i = omega (arith, h) in ne_eqb k i other);
  }

  pub latest_same : (latest : Option ℕ) (k : ℕ) → makes k ≡ false → IsLatestSoFar ops d latest k → IsLatestSoFar ops d latest (k + 1)
  latest_same latest k is so_far = record {
    found = λ i low. ⊎_elim
        (λ (e : k ≡ i). subst (λ v. is_at latest v ≡ is_latest ops v (k + 1) d) e
        (so_far.low k (omega arith) ∙ sym (latest_last k ∙ ap (λ b. b && true) is)))
        (λ (e : k ≢ i). so_far.found i (omega (arith, low, e)) ∙ sym (latest_between i k false (omega (arith, low, e)) is ∙ unfolded i k))
        (cases_eq k i);
    low = λ i h. so_far.low i (omega (arith, h));
  }

-- ---- the first sync

-- whether a sync after i that covers the operation is at j or before it
abbrev pub covers_by : ℕ → MicroOp → ℕ → SyncPoint → Bool
covers_by i op j s = (nat_lt i s.at && nat_le s.at j) && is_covered s.covers op

abbrev pub IsFirstSoFar : List SyncPoint → ℕ → MicroOp → Option ℕ → ℕ → Type 0
IsFirstSoFar syncs i op first n = (j : ℕ) → is_by first j ≡ list_any (covers_by i op j) (take n syncs)

-- ---- the first place at which the log is forced

abbrev pub IsFirstForced : List ℕ → ℕ → Option ℕ → ℕ → Type 0
IsFirstForced forced i first n = (j : ℕ) → is_by first j ≡ is_forced_between (take n forced) i j
