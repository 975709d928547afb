-- What is seen of a set, place by place, and folds over the places of a set.
use Rattle.std.proofs.Common.{◌≡◌, ℕ, zero, suc, ◌+◌, ◌-◌, ◌<◌, ◌≤◌, ◌&&◌, ◌||◌, not, Bool, true, false, cond}
use Rattle.std.proofs.Common.{List, [], ◌∷◌, ◌++◌, refl, sym, ap, ◌∙◌, arith, ⊎_elim, fold, map}
use Rattle.std.proofs.lemmas.Bool.{cases_Bool, false≢true, eq-eqb, ne_eqb}
use Rattle.std.proofs.lemmas.List.Sums.{fold-append}
use Rattle.std.specs.List.{list_all, range_with_len}
use Rattle.cs_micro.specs.declared.micro_op.MicroOp.{MicroOp}
use Rattle.cs_apm.specs.Rules.{op_at}
use Rattle.cs_apm.specs.Laws.Members.{run}
use Rattle.cs_sets.specs.Following.{chosen}
use Rattle.cs_sets.specs.Laws.Following.{chosen_more}
use Rattle.cs_different.specs.Seen.{has_wanted, none_seen, see}
use Rattle.cs_different.proofs.Seeing.{wanted_same}

-- ---- a test that fails somewhere

pub some_fails : (p : ℕ → Bool) (a n : ℕ) → list_all p (range_with_len a n) ≡ false → (z : ℕ) × (z < a + n) × (p z ≡ false)
some_fails p a zero f = absurd (false≢true (sym f))
some_fails p a (suc n) f = ⊎_elim
    (λ (t : p a ≡ true).
    (let rest = some_fails p (a + 1) n (sym (ap (λ b. b && list_all p (range_with_len (a + 1) n)) t) ∙ f) in
    let l = rest.1 in (rest.0, omega (arith, l), rest.2)))
    (λ (g : p a ≡ false). (a, omega arith, g))
    (cases_Bool (p a))

-- something that is wanted isn't seen
pub lacks_wanted : (wants : ℕ → ℕ → Bool) (k : ℕ) (seen : ℕ → Bool) → has_wanted wants k seen ≡ false
    → (z : ℕ) × (z < k) × (wants z k ≡ true) × (seen z ≡ false)
unfolding has_wanted
lacks_wanted wants k seen f =
    let found = some_fails (λ z. not (wants z k) || seen z) 0 k f in
    let low = found.1 in
    let parts = neither (wants found.0 k) (seen found.0) found.2 in
    (found.0, omega (arith, low), parts.0, parts.1)
  where
    neither : (a b : Bool) → (not a || b) ≡ false → (a ≡ true) × (b ≡ false)
    neither true b e = (refl, e)
    neither false b e = absurd (false≢true (sym e))

-- ---- what is seen, place by place

module _ (wants : ℕ → ℕ → Bool) (has : ℕ → Bool) where
  abbrev pub seen_by : ℕ → ℕ → Bool
  seen_by k = fold (see wants) none_seen (chosen has k)

  seen_next : (k i : ℕ) → seen_by (suc k) i ≡ cond (has k) (see wants (seen_by k) k i) (seen_by k i)
  seen_next k i =
      ap (λ v. fold (see wants) none_seen v i) (chosen_more has k)
      ∙ ap (λ f. f i) (fold-append (see wants) none_seen (chosen has k) (cond (has k) (k ∷ []) []))
      ∙ by (has k)
    where
      by : (b : Bool) → fold (see wants) (seen_by k) (cond b (k ∷ []) []) i ≡ cond b (see wants (seen_by k) k i) (seen_by k i)
      by true = refl
      by false = refl

  -- another place changes nothing
  seen_kept : (k i : ℕ) → (i ≡ k → ⊥) → seen_by (suc k) i ≡ seen_by k i
  seen_kept k i ne = seen_next k i ∙ ⊎_elim
      (λ (t : has k ≡ true). ap (λ b. cond b (see wants (seen_by k) k i) (seen_by k i)) t
      ∙ ap (λ b. b && has_wanted wants k (seen_by k) || seen_by k i) (ne_eqb i k ne))
      (λ (f : has k ≡ false). ap (λ b. cond b (see wants (seen_by k) k i) (seen_by k i)) f)
      (cases_Bool (has k))

  seen_later : (k i : ℕ) → k ≤ i → seen_by k i ≡ false
  seen_later zero i high = refl
  seen_later (suc k) i high = seen_kept k i (λ e. omega (arith, e, high)) ∙ seen_later k i (omega (arith, high))

  seen_stays : (d k i : ℕ) → i < k → seen_by (k + d) i ≡ seen_by k i
  seen_stays zero k i low = let e : k + 0 ≡ k = omega arith in ap (λ m. seen_by m i) e
  seen_stays (suc d) k i low =
      (let e : k + suc d ≡ suc (k + d) = omega arith in ap (λ m. seen_by m i) e)
      ∙ seen_kept (k + d) i (λ e. omega (arith, e, low)) ∙ seen_stays d k i low

  seen_at : (n k i : ℕ) → k ≤ n → i < k → seen_by n i ≡ seen_by k i
  seen_at n k i le low = (let e : n ≡ k + (n - k) = omega (arith, le) in ap (λ m. seen_by m i) e) ∙ seen_stays (n - k) k i low

  -- a place is seen if the set has it, and all is seen that it wants
  pub seen_is : (n i : ℕ) → i < n → seen_by n i ≡ (has i && has_wanted wants i (seen_by n))
  seen_is n i low =
      seen_at n (suc i) i (omega (arith, low)) (omega arith) ∙ seen_next i i
      ∙ by (has i)
      ∙ ap (λ b. has i && b) (wanted_same wants i (seen_by i) (seen_by n) (λ z l. sym (seen_at n i z (omega (arith, low)) l)))
    where
      by : (b : Bool) → cond b (see wants (seen_by i) i i) (seen_by i i) ≡ (b && has_wanted wants i (seen_by i))
      by true =
          ap (λ v. v && has_wanted wants i (seen_by i) || seen_by i i) (eq-eqb i i refl)
          ∙ ap (λ v. has_wanted wants i (seen_by i) || v) (seen_later i i (omega arith)) ∙ or_none (has_wanted wants i (seen_by i))
        where
          or_none : (b : Bool) → (b || false) ≡ b
          or_none true = refl
          or_none false = refl
      by false = seen_later i i (omega arith)

  pub seen_has : (n i : ℕ) → i < n → seen_by n i ≡ true → has i ≡ true
  seen_has n i low t = first (has i) (has_wanted wants i (seen_by n)) (sym (seen_is n i low) ∙ t)
    where
      first : (a b : Bool) → (a && b) ≡ true → a ≡ true
      first true b e = refl
      first false b e = absurd (false≢true e)

  pub unseen_lacks : (n i : ℕ) → i < n → has i ≡ true → seen_by n i ≡ false
      → (z : ℕ) × (z < i) × (wants z i ≡ true) × (seen_by n z ≡ false)
  unseen_lacks n i low t f =
      lacks_wanted wants i (seen_by n) (sym (ap (λ b. b && has_wanted wants i (seen_by n)) t) ∙ sym (seen_is n i low) ∙ f)

-- ---- folds over the places that a test has

module _ {S : Type 0} (after : S → MicroOp → S) where
  pub chosen_run : (has : ℕ → Bool) (start : S) (ops : List MicroOp) (n : ℕ)
      → fold after start (map (op_at ops) (chosen has n)) ≡ run after has start ops n
  chosen_run has start ops zero = refl
  chosen_run has start ops (suc k) =
      ap (λ v. fold after start (map (op_at ops) v)) (chosen_more has k)
      ∙ ap (fold after start) (mapped (chosen has k) (cond (has k) (k ∷ []) []))
      ∙ fold-append after start (map (op_at ops) (chosen has k)) (map (op_at ops) (cond (has k) (k ∷ []) []))
      ∙ by (has k)
      ∙ ap (λ s. cond (has k) (after s (op_at ops k)) s) (chosen_run has start ops k)
    where
      mapped : (xs ys : List ℕ) → map (op_at ops) (xs ++ ys) ≡ map (op_at ops) xs ++ map (op_at ops) ys
      mapped [] ys = refl
      mapped (x ∷ xs) ys = ap (λ v. op_at ops x ∷ v) (mapped xs ys)

      by : (b : Bool) → fold after (fold after start (map (op_at ops) (chosen has k))) (map (op_at ops) (cond b (k ∷ []) []))
          ≡ cond b (after (fold after start (map (op_at ops) (chosen has k))) (op_at ops k))
          (fold after start (map (op_at ops) (chosen has k)))
      by true = refl
      by false = refl

  -- what a test leaves out that changes nothing is nothing
  pub run_less : (few many : ℕ → Bool) (start : S) (ops : List MicroOp) (n : ℕ) → ((i : ℕ) → i < n → few i ≡ true → many i ≡ true)
      → ((i : ℕ) → i < n → many i ≡ true → few i ≡ false → (s : S) → after s (op_at ops i) ≡ s)
      → run after few start ops n ≡ run after many start ops n
  run_less few many start ops zero within idle = refl
  run_less few many start ops (suc k) within idle =
      let rest = run_less few many start ops k (λ i l. within i (omega (arith, l))) (λ i l. idle i (omega (arith, l))) in
      ap (λ s. cond (few k) (after s (op_at ops k)) s) rest ∙ ⊎_elim
      (λ (t : few k ≡ true). ap (λ b. cond b (after (run after many start ops k) (op_at ops k)) (run after many start ops k))
      (t ∙ sym (within k (omega arith) t)))
      (λ (f : few k ≡ false). ⊎_elim
      (λ (m : many k ≡ true).
      ap (λ b. cond b (after (run after many start ops k) (op_at ops k)) (run after many start ops k)) f
      ∙ sym (idle k (omega arith) m f (run after many start ops k))
      ∙ sym (ap (λ b. cond b (after (run after many start ops k) (op_at ops k)) (run after many start ops k)) m))
      (λ (g : many k ≡ false). ap (λ b. cond b (after (run after many start ops k) (op_at ops k)) (run after many start ops k)) (f ∙ sym g))
      (cases_Bool (many k)))
      (cases_Bool (few k))
