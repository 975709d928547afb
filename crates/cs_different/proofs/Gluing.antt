-- The classes of a scene's sets, and the sets that differ.
use Rattle.std.proofs.Common.{◌≡◌, ℕ, ◌<◌, ◌≤◌, ◌&&◌, ◌||◌, ltb, Bool, true, false, cond, Result, Ok, Err, IfErr}
use Rattle.std.proofs.Common.{List, [], ◌∷◌, ◌++◌, refl, sym, ap, ◌∙◌, arith, ⊎_elim, fold, get_or, length, map, subst}
use Rattle.std.proofs.lemmas.Bool.{and_from, and_parts, cases_Bool, cases_lt, false_from_ne_true, false≢true, lt-ltb}
use Rattle.std.proofs.lemmas.Bool.Decides.{same_from_decides}
use Rattle.std.proofs.lemmas.List.Elements.{All-contains, All-head, All-map, All-nil, All-push, All-tail}
use Rattle.std.proofs.lemmas.Option.{slice_get_past}
use Rattle.std.specs.List.{All, Contains, filter, list_any}
use Rattle.std.specs.Option.{option_map_or}
use Rattle.cs_sets.specs.Orders.{needs_in}
use Rattle.cs_plan.specs.Scenes.{Scene, micros_of}
use Rattle.cs_sets.specs.declared.row.Row.{Row}
use Rattle.cs_sets.specs.Bits.{has_place}
use Rattle.cs_sets.specs.Chains.{IsBackward, by_chain}
use Rattle.cs_sets.specs.Different.{IsLike, add_first, different, firsts, leave_alike, same_answer, state_of}
use Rattle.cs_sets.specs.Every.{every}
use Rattle.cs_sets.specs.Following.{chosen}
use Rattle.cs_sets.specs.Places.{places_of}
use Rattle.cs_sets.specs.Rows.{needed_in}
use Rattle.cs_sets.specs.Sets.{IsAllowed, is_member}
use Rattle.cs_sets.specs.Laws.Complete.{each_allowed, has_each}
use Rattle.cs_sets.specs.Laws.Following.{chosen_same}
use Rattle.cs_sets.specs.Laws.Holes.{listed}
use Rattle.cs_sets.specs.Laws.Reaching.{chains_backward, chains_reach, every_reach, every_same}
use Rattle.cs_different.specs.Seen.{none_seen, same_seen, see}
use Rattle.cs_different.specs.Sets.{IsLeavable, LeaveSame, leave_same}
use Rattle.cs_different.specs.Wants.{Wants}
use Rattle.cs_different.proofs.Alike.{left_is_like, left_told}
use Rattle.cs_different.proofs.Passing.{passing_same}
use Rattle.cs_different.proofs.Running.{seen_by}
use Rattle.cs_different.proofs.SeenLeaves.{seen_leaves}
use Rattle.cs_different.proofs.Seeing.{seen_says}

-- ---- rows

-- for each of n places, the places that need it by any chain
pub record AreColumns (needs : ℕ → ℕ → Bool) (n : ℕ) (rows : List Row) : Type 0 where
  pub long : length rows ≡ n
  pub each : (i j : ℕ) → i < n → needed_in rows i j ≡ (ltb j n && by_chain needs i j)

module _ (needs : ℕ → ℕ → Bool) (back : IsBackward needs) (n : ℕ) (rows : List Row) (are : AreColumns needs n rows) where
  past : (i j : ℕ) → n ≤ i → needed_in rows i j ≡ false
  unfolding needed_in
  past i j high = ap (λ o. option_map_or (λ row. has_place row j) o false) (slice_get_past rows i (let long = are.long in omega (
    arith,
    long,
    high,
  )))

  pub columns_backward : IsBackward (needed_in rows)
  columns_backward i j t = ⊎_elim
      (λ (low : i < n). chains_backward needs back i j (and_parts (ltb j n) (by_chain needs i j) (sym (are.each i j low) ∙ t)).1)
      (λ (high : n ≤ i). absurd (false≢true (sym (past i j high) ∙ t)))
      (cases_lt i n)

  pub columns_same : every (needed_in rows) n ≡ every needs n
  columns_same =
      every_same (needed_in rows) (by_chain needs) n (λ i j low. ⊎_elim
      (λ (l : i < n). are.each i j l ∙ ap (λ b. b && by_chain needs i j) (lt-ltb j n low))
      (λ (high : n ≤ i). past i j high ∙ sym (false_from_ne_true (by_chain needs i j)
      (λ t. (let up = chains_backward needs back i j t in omega (arith, up, low, high)))))
      (cases_lt i n))
      ∙ sym (every_reach needs (by_chain needs) (chains_reach needs back) n)

-- the columns of an order that is known
pub columns_at : (known order : List (List Bool)) (rows items : List Row) → rows ≡ items → length items ≡ length order
    → ((i j : ℕ) → i < length order → needed_in items i j ≡ (ltb j (length order) && by_chain (needs_in order) i j))
    → order ≡ known → AreColumns (needs_in known) (length known) rows
columns_at known order rows items e long each is =
    subst (λ o. AreColumns (needs_in o) (length o) rows) is
    (record { long = ap length e ∙ long; each = λ i j low. ap (λ r. needed_in r i j) e ∙ each i j low })

-- ---- tests that agree

module _ {X : Type 0} (P : X → Type 0) (f g : X → X → Bool) (agree : (a b : X) → P a → P b → f a b ≡ g a b) where
  any_agree : (kept : List X) (x : X) → All P kept → P x → list_any (λ y. f y x) kept ≡ list_any (λ y. g y x) kept
  any_agree [] x all is = refl
  any_agree (y ∷ kept) x all is =
      ap (λ b. b || list_any (λ y. f y x) kept) (agree y x (All-head P y kept all) is)
      ∙ ap (λ b. g y x || b) (any_agree kept x (All-tail P y kept all) is)

  kept_agree : (xs kept : List X) → All P xs → All P kept → fold (add_first f) kept xs ≡ fold (add_first g) kept xs
  kept_agree [] kept all h = refl
  kept_agree (x ∷ xs) kept all h =
      let is = All-head P x xs all in
      let rest = All-tail P x xs all in
      ap (λ b. fold (add_first f) (cond b kept (kept ++ x ∷ [])) xs) (any_agree kept x h is)
      ∙ ⊎_elim
      (λ (t : list_any (λ y. g y x) kept ≡ true).
      subst (λ b. fold (add_first f) (cond b kept (kept ++ x ∷ [])) xs ≡ fold (add_first g) (cond b kept (kept ++ x ∷ [])) xs) (sym t)
      (kept_agree xs kept rest h))
      (λ (n : list_any (λ y. g y x) kept ≡ false).
      subst (λ b. fold (add_first f) (cond b kept (kept ++ x ∷ [])) xs ≡ fold (add_first g) (cond b kept (kept ++ x ∷ [])) xs) (sym n)
      (kept_agree xs (kept ++ x ∷ []) rest (All-push P kept x h is)))
      (cases_Bool (list_any (λ y. g y x) kept))

  pub firsts_agree : (xs : List X) → All P xs → firsts f xs ≡ firsts g xs
  firsts_agree xs all = kept_agree xs [] all (All-nil P)

-- ---- sets that two orders allow

-- the same sets, if all are the same
pub allowed_same : (p q : ℕ → ℕ → Bool) (n : ℕ) → IsBackward p → IsBackward q → every p n ≡ every q n
    → (places : List ℕ) → IsAllowed p n places → IsAllowed q n places
allowed_same p q n back too same places h =
    All-contains (IsAllowed q n) (every q n) places (each_allowed q too n) (subst (λ v. Contains v places) same (has_each p back n places
    h))

-- ---- refusals

pub err_weaker : {A E : Type 0} {P Q : E → Type 0} (r : Result A E) → ((e : E) → P e → Q e) → IfErr r P → IfErr r Q
err_weaker (Ok a) f h = tt
err_weaker (Err e) f h = f e h

-- ---- what is seen leaves what the set leaves

module _ (s : Scene) (wants needs : ℕ → ℕ → Bool) (n : ℕ) (rows : List Row) (are : AreColumns needs n rows) (back : IsBackward needs)
    (law : (places : List ℕ) → IsAllowed needs n places → LeaveSame s places (chosen (state_of (see wants) none_seen places) n)) where
  abbrev like : (ℕ → Bool) → (ℕ → Bool) → Bool
  like a b = leave_same s (chosen a n) (chosen b n)

  fine : IsLike like
  fine = record {
    itself = λ x. (left_is_like s).itself (chosen x n);
    passes_on = λ x y z p q. (left_is_like s).passes_on (chosen x n) (chosen y n) (chosen z n) p q;
  }

  coarser : (a b : ℕ → Bool) → same_seen n a b ≡ true → like a b ≡ true
  coarser a b t =
      subst (λ v. leave_same s (chosen a n) v ≡ true) (chosen_same a b n (λ i low. seen_says n a b t i low)) ((left_is_like s).itself
      (chosen a n))

  agree : (a b : List ℕ) → IsAllowed needs n a → IsAllowed needs n b
      → leave_alike like (see wants) none_seen a b ≡ leave_same s a b
  agree a b ia ib =
      let x = chosen (state_of (see wants) none_seen a) n in
      let y = chosen (state_of (see wants) none_seen b) n in
      let p = law a ia in
      let q = law b ib in
      same_from_decides (leave_same s x y) (leave_same s a b) (
        λ t. (let e = (left_told s x y).0 t in
            record { trees = p.trees ∙ e.trees ∙ sym q.trees; says = p.says ∙ e.says ∙ sym q.says }),
        λ e. (left_told s x y).1
            (record { trees = sym p.trees ∙ e.trees ∙ q.trees; says = sym p.says ∙ e.says ∙ q.says }),
      )
      (left_told s a b)

  all_allowed : (found : List Row) → All (λ row. IsAllowed (needed_in rows) (length rows) (places_of row)) found
      → All (IsAllowed needs n) (map places_of found)
  all_allowed found all =
      All-map (IsAllowed needs n) places_of found (λ k d low.
      allowed_same (needed_in rows) needs n (columns_backward needs back n rows are) back (columns_same needs back n rows are)
      (places_of (get_or found k d)) (subst (λ m. IsAllowed (needed_in rows) m (places_of (get_or found k d))) are.long (all k d low)))

  pub leavable : (found : List Row) → All (λ row. IsAllowed (needed_in rows) (length rows) (places_of row)) found
      → All (λ row. IsAllowed needs n (places_of row)) found
  leavable found all = λ k d low.
      (allowed_same (needed_in rows) needs n (columns_backward needs back n rows are) back (columns_same needs back n rows are)
      (places_of (get_or found k d)) (subst (λ m. IsAllowed (needed_in rows) m (places_of (get_or found k d))) are.long (all k d low)))

  pub classes_found : (found : List Row) → All (λ row. IsAllowed (needed_in rows) (length rows) (places_of row)) found
      → ((like : (ℕ → Bool) → (ℕ → Bool) → Bool) → IsLike like
      → ((a b : ℕ → Bool) → same_seen (length rows) a b ≡ true → like a b ≡ true)
      → firsts (leave_alike like (see wants) none_seen) (map places_of found)
      ≡ different like (see wants) none_seen (needed_in rows) (length rows))
      → firsts (leave_same s) (map places_of found) ≡ firsts (leave_same s) (every needs n)
  classes_found found all found_firsts =
      let P = IsAllowed needs n in
      let Q : ℕ → Type 0 = λ m. (like : (ℕ → Bool) → (ℕ → Bool) → Bool) → IsLike like
      → ((a b : ℕ → Bool) → same_seen m a b ≡ true → like a b ≡ true)
      → firsts (leave_alike like (see wants) none_seen) (map places_of found) ≡ different like (see wants) none_seen (needed_in rows) m in
      sym (firsts_agree P (leave_alike like (see wants) none_seen) (leave_same s) agree (map places_of found) (all_allowed found all))
      ∙ subst Q are.long found_firsts like fine coarser
      ∙ ap (firsts (leave_alike like (see wants) none_seen)) (columns_same needs back n rows are)
      ∙ firsts_agree P (leave_alike like (see wants) none_seen) (leave_same s) agree (every needs n) (each_allowed needs back n)

  -- where a set and what is seen of it pass a test both or none
  module _ (test : List ℕ → Bool)
      (tells : (places : List ℕ) → IsAllowed needs n places → test (chosen (state_of (see wants) none_seen places) n) ≡ test places) where
    abbrev passes : (ℕ → Bool) → Bool
    passes a = test (chosen a n)

    abbrev like_both : (ℕ → Bool) → (ℕ → Bool) → Bool
    like_both a b = like a b && same_answer (passes a) (passes b)

    answers_same : (a b : Bool) → same_answer a b ≡ true → a ≡ b
    answers_same true true e = refl
    answers_same true false e = absurd (false≢true e)
    answers_same false true e = absurd (false≢true e)
    answers_same false false e = refl

    same_answers : (a b : Bool) → a ≡ b → same_answer a b ≡ true
    same_answers true true e = refl
    same_answers true false e = absurd (false≢true (sym e))
    same_answers false true e = absurd (false≢true e)
    same_answers false false e = refl

    fine_both : IsLike like_both
    fine_both = record {
      itself = λ x. and_from (like x x) (same_answer (passes x) (passes x)) (fine.itself x) (same_answers (passes x) (passes x) refl);
      passes_on = λ x y z p q.
          (let one = and_parts (like x y) (same_answer (passes x) (passes y)) p in
          let two = and_parts (like y z) (same_answer (passes y) (passes z)) q in
          and_from (like x z) (same_answer (passes x) (passes z)) (fine.passes_on x y z one.0 two.0)
          (same_answers (passes x) (passes z) (answers_same (passes x) (passes y) one.1 ∙ answers_same (passes y) (passes z) two.1)));
    }

    coarser_both : (a b : ℕ → Bool) → same_seen n a b ≡ true → like_both a b ≡ true
    coarser_both a b t =
        and_from (like a b) (same_answer (passes a) (passes b)) (coarser a b t)
        (same_answers (passes a) (passes b) (ap test (chosen_same a b n (λ i low. seen_says n a b t i low))))

    finer : (a b : List ℕ) → IsAllowed needs n a → IsAllowed needs n b → leave_alike like_both (see wants) none_seen a b ≡ true
        → (leave_same s a b ≡ true) × (test a ≡ test b)
    finer a b ia ib t =
        let x = state_of (see wants) none_seen a in
        let y = state_of (see wants) none_seen b in
        let both = and_parts (like x y) (same_answer (passes x) (passes y)) t in (
          sym (agree a b ia ib) ∙ both.0,
          sym (tells a ia) ∙ answers_same (passes x) (passes y) both.1 ∙ tells b ib,
        )

    pub passing_found : (found : List Row) → All (λ row. IsAllowed (needed_in rows) (length rows) (places_of row)) found
        → ((like : (ℕ → Bool) → (ℕ → Bool) → Bool) → IsLike like
        → ((a b : ℕ → Bool) → same_seen (length rows) a b ≡ true → like a b ≡ true)
        → firsts (leave_alike like (see wants) none_seen) (map places_of found)
        ≡ different like (see wants) none_seen (needed_in rows) (length rows))
        → firsts (leave_same s) (filter test (map places_of found)) ≡ firsts (leave_same s) (filter test (every needs n))
    passing_found found all found_firsts =
        let Q : ℕ → Type 0 = λ m. (like : (ℕ → Bool) → (ℕ → Bool) → Bool) → IsLike like
        → ((a b : ℕ → Bool) → same_seen m a b ≡ true → like a b ≡ true)
        → firsts (leave_alike like (see wants) none_seen) (map places_of found)
        ≡ different like (see wants) none_seen (needed_in rows) m in
        passing_same (IsAllowed needs n) (leave_alike like_both (see wants) none_seen) (leave_same s) (left_is_like s) test finer
        (map places_of found) (every needs n) (all_allowed found all) (each_allowed needs back n)
        (subst Q are.long found_firsts like_both fine_both coarser_both
        ∙ ap (firsts (leave_alike like_both (see wants) none_seen)) (columns_same needs back n rows are))

-- ---- what is seen, by what is wanted

module _ (s : Scene) (wants : ℕ → ℕ → Bool) (needs : ℕ → ℕ → Bool) (back : IsBackward needs) (m : ℕ)
    (same : m ≡ length (micros_of s).ops) (places : List ℕ) (allowed : IsAllowed needs m places) where
  pub listed_by : places ≡ chosen (is_member places) (length (micros_of s).ops)
  listed_by = listed needs back m places allowed ∙ ap (chosen (is_member places)) same

  pub seen_listed : chosen (fold (see wants) none_seen places) m
      ≡ chosen (seen_by wants (is_member places) (length (micros_of s).ops)) (length (micros_of s).ops)
  seen_listed =
      ap (λ v. chosen (fold (see wants) none_seen v) m) listed_by
      ∙ ap (chosen (seen_by wants (is_member places) (length (micros_of s).ops))) same

  pub law_by : ((z k : ℕ) → wants z k ≡ true → Wants s z k) → ((p : List ℕ) → IsAllowed needs m p → IsLeavable s p)
      → LeaveSame s places (chosen (state_of (see wants) none_seen places) m)
  law_by are told = subst (LeaveSame s places) (sym seen_listed) (seen_leaves s wants are places (told places allowed) listed_by)
