-- Levels of classes lead to the different members.
use Rattle.std.proofs.Common.{◌≡◌, ℕ, zero, suc, ◌+◌, ◌-◌, ◌<◌, ◌≤◌, ◌==◌, ◌&&◌, ◌||◌, not, Bool, true, false, cond}
use Rattle.std.proofs.Common.{List, [], ◌∷◌, ◌++◌, refl, sym, ap, ◌∙◌, arith, ⊎_elim, length, get_or, subst, subst₂}
use Rattle.std.proofs.Common.{fold, map}
use Rattle.std.proofs.Common.{None, Option, Some}
use Rattle.std.proofs.lemmas.Bool.{cases_Bool, cases_eq, cases_lt, and_parts, and_from, or_from, or_left, or_right, eq-eqb, ne_eqb}
use Rattle.std.proofs.lemmas.Bool.{false≢true, not-false, not-true}
use Rattle.std.proofs.lemmas.Bool.Decides.{Decides-eqb}
use Rattle.std.proofs.lemmas.List.{append-nil}
use Rattle.std.proofs.lemmas.List.Concat.{flat_map-append, flat_map_single}
use Rattle.std.proofs.lemmas.List.Elements.{All-head, All-nil, All-tail, All-push, Contains-append_cases, filter-append}
use Rattle.std.proofs.lemmas.List.Folds.{list_any-append}
use Rattle.std.proofs.lemmas.List.Sums.{fold_push}
use Rattle.std.proofs.lemmas.Slice.Eq.{slice_eq-Decides}
use Rattle.std.specs.BTreeMap.{is_at}
use Rattle.std.specs.Cmp.{nat_cmp_is}
use Rattle.std.specs.Option.{is_some}
use Rattle.std.specs.Ordering.{is_eq, nat_cmp}
use Rattle.std.specs.declared.cmp.Ordering.TheVariants.{Equal}
use Rattle.cs_sets.specs.declared.row.Row.{Row}
use Rattle.std.specs.List.{All, Contains, filter, flat_map, list_any, range_with_len}
use Rattle.cs_different.specs.declared.classes.Class.{Class}
use Rattle.cs_sets.specs.Bits.{has_place}
use Rattle.cs_sets.specs.Every.{may, choices, extending, lacking}
use Rattle.cs_sets.specs.Different.{IsLike, add_first, different, firsts, leave_alike, state_of, same_future, one_class}
use Rattle.cs_different.specs.Classing.{AreGrown, AreMet, IsClass, Leads, digest_of_row, extensions, members_at, one_key}
use Rattle.cs_sets.specs.Laws.Lists.{range_more}
use Rattle.cs_sets.specs.Laws.Counts.{below_more, below_push, extending_with, extending_without, future_with, future_without}
use Rattle.cs_sets.specs.Chains.{IsBackward}
use Rattle.cs_sets.specs.Sets.{IsAllowed}
use Rattle.cs_sets.specs.Laws.Complete.{joins, no_places, stays}
use Rattle.cs_sets.specs.Laws.Members.{IsBelow}
use Rattle.cs_sets.specs.Laws.Classes.{choice_cases, follows, future_from}
use Rattle.cs_sets.specs.Laws.Firsts.{found_any, pruned}
use Rattle.cs_different.proofs.Seeing.{same_is_like, seen_from}
use Rattle.cs_sets.specs.Laws.Walking.{IsAt}
use Rattle.cs_different.specs.Seen.{same_seen}

flat_found : {X Y : Type 0} (f : X → List Y) (xs : List X) (y : Y) → Contains (flat_map f xs) y → (x : X) × (Contains xs x × Contains (f x)
    y)
flat_found f [] y (k, low, e) = absurd (omega (arith, low))
flat_found {X} {Y} f (x ∷ xs) y c = ⊎_elim
    (λ (h : Contains (f x) y). (x, ((0, omega arith, refl), h)))
    (λ (h : Contains (flat_map f xs) y).
    (let w = flat_found f xs y h in let at = w.1.0 in let l = at.1 in (w.0, ((suc at.0, omega (arith, l), at.2), w.1.1))))
    (Contains-append_cases (f x) (flat_map f xs) y c)

flat_any : {X Y : Type 0} (f : X → List Y) (xs : List X) (x : X) (p : Y → Bool) → Contains xs x → list_any p (f x) ≡ true
    → list_any p (flat_map f xs) ≡ true
flat_any f [] x p (k, low, e) t = absurd (omega (arith, low))
flat_any f (x ∷ xs) a p (zero, low, e) t =
    list_any-append p (f x) (flat_map f xs) ∙ or_left (list_any p (f x)) (list_any p (flat_map f xs)) (ap (λ v. list_any p (f v)) e ∙ t)
flat_any f (x ∷ xs) a p (suc k, low, e) t =
    list_any-append p (f x) (flat_map f xs)
    ∙ or_right (list_any p (f x)) (list_any p (flat_map f xs)) (flat_any f xs a p (k, omega (arith, low), e) t)

module _ {S : Type 0} (same : S → S → Bool) (act : S → ℕ → S) (start : S) (is : IsLike same)
    (acts : (s t : S) (k : ℕ) → same s t ≡ true → same (act s k) (act t k) ≡ true) (needs : ℕ → ℕ → Bool) (n : ℕ)
    (like : S → S → Bool) (coarser : (s t : S) → same s t ≡ true → like s t ≡ true) where
  abbrev class : ℕ → List ℕ → List ℕ → Bool
  class k = one_class same act start needs n k

  choice_below : (k : ℕ) (b z : List ℕ) → IsBelow k b → Contains (choices needs k b) z → IsBelow (k + 1) z
  choice_below k b z below c = ⊎_elim
      (λ (e : b ≡ z). subst (IsBelow (k + 1)) e (below_more k b below))
      (λ (w : (may needs k b k ≡ true) × (b ++ k ∷ [] ≡ z)). subst (IsBelow (k + 1)) w.1 (below_push k b below))
      (choice_cases same act start is acts needs n k b z c)

  -- two sets of one class are extended alike
  pub extended_alike : (m k : ℕ) → k + m ≡ n → (a b : List ℕ) → IsBelow k a → IsBelow k b → class k a b ≡ true → (z : List ℕ)
      → Contains (extending needs m k b) z → list_any (λ w. leave_alike like act start w z) (extending needs m k a) ≡ true
  extended_alike zero k e a b la lb t z (zero, low, q) =
      or_left (leave_alike like act start a z) false
      (ap (leave_alike like act start a) (sym q)
      ∙ coarser (state_of act start a) (state_of act start b) (and_parts (same (state_of act start a) (state_of act start b)) (same_future
      needs n k a b) t).0)
  extended_alike zero k e a b la lb t z (suc i, low, q) = absurd (omega (arith, low))
  extended_alike (suc m) k e a b la lb t z c =
      let w = flat_found (extending needs m (k + 1)) (choices needs k b) z c in
      let there = follows same act start is acts needs n k (omega (arith, e)) a b la lb t w.0 w.1.0 in
      let found = found_any (λ v. class (suc k) v w.0) (choices needs k a) there in
      let in_a : Contains (choices needs k a) found.1 = (found.0, found.2, found.3) in
      let next : suc k ≡ k + 1 = omega arith in
      let t2 : class (k + 1) found.1 w.0 ≡ true = ap (λ v. class v found.1 w.0) (sym next) ∙ found.4 in
      flat_any (extending needs m (k + 1)) (choices needs k a) found.1 (λ v. leave_alike like act start v z) in_a
      (extended_alike m (k + 1) (omega (arith, e)) found.1 w.0 (choice_below k a found.1 la in_a) (choice_below k b w.0 lb w.1.0) t2 z
      w.1.1)

-- ---- keys

-- classes of one key have the same in common
same_key : (a b : Class) → one_key a b ≡ true → a.common ≡ b.common
same_key a b t =
    ap (λ (w : List ℕ). (let r : Row = record { words = w } in r))
    ((slice_eq-Decides Decides-eqb a.common.words b.common.words (one_key a b) refl).0 t)

none_met : (end : ℕ) (index : ℕ → Option ℕ) (kept : List Class) (class : Class) → AreMet end index kept
    → index (digest_of_row end class.common) ≡ None → list_any (λ y. one_key y class) kept ≡ false
none_met end index [] class met none = refl
none_met end index (y ∷ kept) class met none =
    or_from (one_key y class) (list_any (λ z. one_key z class) kept)
    (⊎_elim
    (λ (t : one_key y class ≡ true). absurd (false≢true
    (sym (ap is_some none) ∙ ap (λ r. is_some (index (digest_of_row end r))) (sym (same_key y class t))
    ∙ All-head (λ z. is_some (index (digest_of_row end z.common)) ≡ true) y kept met)))
    (λ (f : one_key y class ≡ false). f)
    (cases_Bool (one_key y class)))
    (none_met end index kept class (All-tail (λ z. is_some (index (digest_of_row end z.common)) ≡ true) y kept met) none)

-- a class without a digest in the table is new
pub new_class : (end : ℕ) (index : ℕ → Option ℕ) (kept : List Class) (class : Class) → AreMet end index kept
    → index (digest_of_row end class.common) ≡ None → true ≡ not (list_any (λ y. one_key y class) kept)
new_class end index kept class met none = sym (ap not (none_met end index kept class met none))

pub any_at : (kept : List Class) (class : Class) (i : ℕ) (d : Class) → i < length kept → one_key (get_or kept i d) class ≡ true
    → list_any (λ y. one_key y class) kept ≡ true
any_at [] class i d low t = absurd (omega (arith, low))
any_at (y ∷ kept) class zero d low t = or_left (one_key y class) (list_any (λ z. one_key z class) kept) t
any_at (y ∷ kept) class (suc i) d low t =
    or_right (one_key y class) (list_any (λ z. one_key z class) kept) (any_at kept class i d (omega (arith, low)) t)

-- what is kept after one class more
pub kept_met : (kept : List Class) (class : Class) (new : Bool) → new ≡ not (list_any (λ y. one_key y class) kept) → new ≡ false
    → kept ≡ add_first one_key kept class
kept_met kept class new is f =
    sym (ap (λ b. cond b kept (kept ++ class ∷ [])) (not-false (list_any (λ y. one_key y class) kept) (sym is ∙ f)))

pub kept_new : (kept : List Class) (class : Class) (new : Bool) → new ≡ not (list_any (λ y. one_key y class) kept) → new ≡ true
    → kept ++ class ∷ [] ≡ add_first one_key kept class
kept_new kept class new is t =
    sym (ap (λ b. cond b kept (kept ++ class ∷ [])) (not-true (list_any (λ y. one_key y class) kept) (sym is ∙ t)))

-- one digest more
pub met_more : (end : ℕ) (index now : ℕ → Option ℕ) (kept : List Class) (class : Class) (i : ℕ) → AreMet end index kept
    → ((q : ℕ) → now q ≡ cond (is_at (nat_cmp (digest_of_row end class.common)) q) (Some i) (index q))
    → AreMet end now (kept ++ class ∷ [])
met_more end index now kept class i met is =
    All-push (λ y. is_some (now (digest_of_row end y.common)) ≡ true) kept class
    (λ k d low. still (digest_of_row end (get_or kept k d).common) (met k d low))
    (ap is_some (is (digest_of_row end class.common))
    ∙ ap (λ b. is_some (cond b (Some i) (index (digest_of_row end class.common)))) (at_itself (digest_of_row end class.common)))
  where
    still : (q : ℕ) → is_some (index q) ≡ true → is_some (now q) ≡ true
    still q t = ap is_some (is q) ∙ ⊎_elim
        (λ (at : is_at (nat_cmp (digest_of_row end class.common)) q ≡ true). ap (λ b. is_some (cond b (Some i) (index q))) at)
        (λ (off : is_at (nat_cmp (digest_of_row end class.common)) q ≡ false). ap (λ b. is_some (cond b (Some i) (index q))) off ∙ t)
        (cases_Bool (is_at (nat_cmp (digest_of_row end class.common)) q))

    at_itself : (q : ℕ) → is_at (nat_cmp q) q ≡ true
    at_itself q = ap is_eq (sym (nat_cmp_is q q Equal refl))

-- ---- classes in bits

module _ (act : (ℕ → Bool) → ℕ → ℕ → Bool) (start : ℕ → Bool) (needs : ℕ → ℕ → Bool) (n : ℕ)
    (acts : (s t : ℕ → Bool) (k : ℕ) → same_seen n s t ≡ true → same_seen n (act s k) (act t k) ≡ true)
    (like : (ℕ → Bool) → (ℕ → Bool) → Bool) (fine : IsLike like) (coarser : (s t : ℕ → Bool) → same_seen n s t ≡ true → like s t ≡ true)
  where
    leaves_is_like : IsLike (leave_alike like act start)
    leaves_is_like = record {
      itself = λ x. fine.itself (state_of act start x);
      passes_on = λ x y z p q. fine.passes_on (state_of act start x) (state_of act start y) (state_of act start z) p q;
    }

    key_is_class : (k : ℕ) (a b : Class) → IsClass act start needs n k a → IsClass act start needs n k b → one_key a b ≡ true
        → one_class (same_seen n) act start needs n k (members_at k a) (members_at k b) ≡ true
    key_is_class k a b ia ib t =
        let rows : a.common ≡ b.common = same_key a b t in
        and_from (same_seen n (state_of act start (members_at k a)) (state_of act start (members_at k b)))
        (same_future needs n k (members_at k a) (members_at k b))
        (seen_from n (state_of act start (members_at k a)) (state_of act start (members_at k b))
        (λ i low. ⊎_elim
        (λ (l : i < k). sym (ia.seen i l) ∙ ap (λ r. has_place r i) rows ∙ ib.seen i l)
        (λ (h : k ≤ i). ia.unseen i h ∙ sym (ib.unseen i h))
        (cases_lt i k)))
        (future_from needs n k (members_at k a) (members_at k b)
        (λ j l u. sym (ia.at.future j l u) ∙ ap (λ r. has_place r j) rows ∙ ib.at.future j l u))

    pub leads_pruned : (k : ℕ) (level : List Class) → k ≤ n → All (IsClass act start needs n k) level → Leads like act start needs n k level
        → Leads like act start needs n k (firsts one_key level)
    leads_pruned k level low all leads =
        pruned (IsClass act start needs n k) one_key (leave_alike like act start) leaves_is_like (extensions needs n k)
        (λ a b ia ib t z c.
        extended_alike (same_seen n) act start (same_is_like n) acts needs n like coarser (n - k) k (omega (arith, low)) (members_at k a)
        (members_at k b)
        ia.at.below ib.at.below (key_is_class k a b ia ib t) z c)
        level all ∙ leads

-- ---- one place more

module _ (act : (ℕ → Bool) → ℕ → ℕ → Bool) (start : ℕ → Bool) (needs : ℕ → ℕ → Bool) (back : IsBackward needs) (n : ℕ) where
  add-one' : (k : ℕ) → suc k ≡ k + 1
  add-one' k = omega arith

  members_more : (k : ℕ) (class : Class) → members_at (k + 1) class ≡ members_at k class ++ cond (has_place class.members k) (k ∷ []) []
  members_more k class = ap (filter (has_place class.members)) (range_more k) ∙ filter-append (has_place class.members) (range_with_len 0
      k) (k ∷ [])

  filter_below : (p q : ℕ → Bool) (a m : ℕ) → ((i : ℕ) → i < a + m → p i ≡ q i) → filter p (range_with_len a m) ≡ filter q (range_with_len
      a m)
  filter_below p q a zero h = refl
  filter_below p q a (suc m) h =
      ap (λ b. cond b (a ∷ filter p (range_with_len (a + 1) m)) (filter p (range_with_len (a + 1) m))) (h a (omega arith))
      ∙ ap (λ v. cond (q a) (a ∷ v) v) (filter_below p q (a + 1) m (λ i l. h i (omega (arith, l))))

  module _ (k : ℕ) (low : k < n) (class : Class) (ic : IsClass act start needs n k class) (out : Class)
      (members : (j : ℕ) → has_place out.members j ≡ has_place class.members j)
      (common : (j : ℕ) → has_place out.common j ≡ (lacking needs k (has_place class.common) j && not (j == k))) where
    without_members : members_at (k + 1) out ≡ members_at k class
    without_members =
        members_more k out ∙ ap (λ b. members_at k out ++ cond b (k ∷ []) []) (members k ∙ ic.none_later k (omega arith))
        ∙ append-nil (members_at k out) ∙ filter_below (has_place out.members) (has_place class.members) 0 k (λ i l. members i)

    and_true : (b : Bool) → (b && true) ≡ b
    and_true true = refl
    and_true false = refl

    and_false : (b : Bool) → (b && false) ≡ false
    and_false true = refl
    and_false false = refl

    -- nothing before the place needs it
    needed_not : (i : ℕ) → i < k → needs k i ≡ false
    needed_not i l = ⊎_elim
        (λ (t : needs k i ≡ true). (let after = back k i t in absurd (omega (arith, l, after))))
        (λ (f : needs k i ≡ false). f)
        (cases_Bool (needs k i))

    without_seen : (i : ℕ) → i < k + 1 → has_place out.common i ≡ state_of act start (members_at k class) i
    without_seen i l = ⊎_elim
        (λ (e : i ≡ k). common i ∙ ap (λ b. lacking needs k (has_place class.common) i && not b) (eq-eqb i k e)
        ∙ and_false (lacking needs k (has_place class.common) i) ∙ sym (ic.unseen i (omega (arith, e))))
        (λ (ne : i ≡ k → ⊥). (let below : i < k = omega (arith, l, ne) in
        common i ∙ ap (λ b. has_place class.common i && not b && not (i == k)) (needed_not i below)
        ∙ ap (λ b. has_place class.common i && true && not b) (ne_eqb i k ne)
        ∙ and_true (has_place class.common i && true) ∙ and_true (has_place class.common i) ∙ ic.seen i below))
        (cases_eq i k)

    pub without_is : IsClass act start needs n (k + 1) out
    without_is = record {
      seen = λ i l. without_seen i l ∙ ap (λ v. state_of act start v i) (sym without_members);
      unseen = λ i l. ap (λ v. state_of act start v i) without_members ∙ ic.unseen i (omega (arith, l));
      allowed = subst₂ (IsAllowed needs) (add-one' k) (sym without_members) (stays needs back k (members_at k class) ic.allowed);
      at = subst (λ v. IsAt needs n (k + 1) v (has_place out.common)) (sym without_members) (record {
        below = below_more k (members_at k class) ic.at.below;
        future = λ j l u. common j
            ∙ ap (λ b. lacking needs k (has_place class.common) j && not b) (ne_eqb j k (λ e. omega (arith, l, e)))
            ∙ and_true (lacking needs k (has_place class.common) j)
            ∙ future_without needs n k (members_at k class) (has_place class.common) ic.at.below ic.at.future j l u;
      });
      none_later = λ j l. members j ∙ ic.none_later j (omega (arith, l));
    }

    -- the place can't be taken
    pub one_extends : has_place class.common k ≡ false → extensions needs n (k + 1) out ≡ extensions needs n k class
    one_extends f =
        let m : n - k ≡ suc (n - (k + 1)) = omega (arith, low) in
        ap (extending needs (n - (k + 1)) (k + 1)) without_members
        ∙ sym (extending_without needs (n - (k + 1)) k (members_at k class) (sym (ic.at.future k (omega arith) low) ∙ f))
        ∙ ap (λ v. extending needs v k (members_at k class)) (sym m)

    module _ (more : Class) (free : has_place class.common k ≡ true) (with_members : (j : ℕ) → has_place more.members j ≡ (j == k ||
        has_place class.members j))
        (kept : (j : ℕ) → (j ≡ k → ⊥) → has_place more.common j ≡ has_place class.common j)
        (after : (i : ℕ) → i < k + 1 → has_place more.common i ≡ act (state_of act start (members_at k class)) k i)
        (later : (i : ℕ) → k + 1 ≤ i → act (state_of act start (members_at k class)) k i ≡ false) where
      members_with : members_at (k + 1) more ≡ members_at k class ++ k ∷ []
      members_with =
          members_more k more
          ∙ ap (λ b. members_at k more ++ cond b (k ∷ []) []) (with_members k ∙ or_left (k == k) (has_place class.members k) (eq-eqb k k
          refl))
          ∙ ap (λ v. v ++ k ∷ []) (filter_below (has_place more.members) (has_place class.members) 0 k
          (λ i l. with_members i ∙ ap (λ b. b || has_place class.members i) (ne_eqb i k (λ e. omega (arith, l, e)))))

      with_state : (i : ℕ) → state_of act start (members_at (k + 1) more) i ≡ act (state_of act start (members_at k class)) k i
      with_state i = ap (λ v. state_of act start v i) members_with ∙ ap (λ s. s i) (fold_push act start (members_at k class) k)

      pub with_is : IsClass act start needs n (k + 1) more
      with_is = record {
        seen = λ i l. after i l ∙ sym (with_state i);
        unseen = λ i l. with_state i ∙ later i l;
        allowed = subst₂ (IsAllowed needs) (add-one' k) (sym members_with)
            (joins needs back k (members_at k class) ic.allowed (sym (ic.at.future k (omega arith) low) ∙ free));
        at = subst (λ v. IsAt needs n (k + 1) v (has_place more.common)) (sym members_with) (record {
          below = below_push k (members_at k class) ic.at.below;
          future = λ j l u. kept j (λ e. omega (arith, l, e))
              ∙ future_with needs n k (members_at k class) (has_place class.common) ic.at.future j l u;
        });
        none_later = λ j l. with_members j ∙ ap (λ b. b || has_place class.members j) (ne_eqb j k (λ e. omega (arith, l, e)))
            ∙ ic.none_later j (omega (arith, l));
      }

      pub both_extend : extensions needs n (k + 1) out ++ extensions needs n (k + 1) more ≡ extensions needs n k class
      both_extend =
          let m : n - k ≡ suc (n - (k + 1)) = omega (arith, low) in
          ap (λ v. extending needs (n - (k + 1)) (k + 1) v ++ extensions needs n (k + 1) more) without_members
          ∙ ap (λ v. extending needs (n - (k + 1)) (k + 1) (members_at k class) ++ extending needs (n - (k + 1)) (k + 1) v) members_with
          ∙ sym (extending_with needs (n - (k + 1)) k (members_at k class) (sym (ic.at.future k (omega arith) low) ∙ free))
          ∙ ap (λ v. extending needs v k (members_at k class)) (sym m)

-- ---- the first level and the last

pub first_class : (act : (ℕ → Bool) → ℕ → ℕ → Bool) (start : ℕ → Bool) (needs : ℕ → ℕ → Bool) → IsBackward needs → (n : ℕ) (class : Class)
    → ((i : ℕ) → start i ≡ false) → ((j : ℕ) → has_place class.members j ≡ false) → IsAt needs n 0 [] (has_place class.common)
    → IsClass act start needs n 0 class
first_class act start needs back n class unseen none at = record {
  seen = λ i l. absurd (omega (arith, l));
  unseen = λ i l. unseen i;
  allowed = no_places needs back;
  at = at;
  none_later = λ j l. none j;
}

pub grown_leads : (act : (ℕ → Bool) → ℕ → ℕ → Bool) (start : ℕ → Bool) (needs : ℕ → ℕ → Bool) (n : ℕ)
    (like : (ℕ → Bool) → (ℕ → Bool) → Bool) (k : ℕ) (level next : List Class)
    → flat_map (extensions needs n (k + 1)) next ≡ flat_map (extensions needs n k) level → Leads like act start needs n k level
    → Leads like act start needs n (k + 1) next
grown_leads act start needs n like k level next e leads = ap (firsts (leave_alike like act start)) e ∙ leads

pub last_leads : (act : (ℕ → Bool) → ℕ → ℕ → Bool) (start : ℕ → Bool) (needs : ℕ → ℕ → Bool) (n : ℕ)
    (like : (ℕ → Bool) → (ℕ → Bool) → Bool) (level : List Class)
    → Leads like act start needs n n level → firsts (leave_alike like act start) (map (members_at n) level) ≡ different like act start
    needs n
last_leads act start needs n like level leads =
    ap (firsts (leave_alike like act start))
    (sym (flat_map_single (members_at n) level)
    ∙ (let z : n - n ≡ 0 = omega arith in ap (λ m. flat_map (λ c. extending needs m n (members_at n c)) level) (sym z)))
    ∙ leads

-- ---- what is kept

pub firsts_all : {X : Type 0} (P : X → Type 0) (like : X → X → Bool) (xs kept : List X) → All P xs → All P kept → All P (fold (add_first
    like) kept xs)
firsts_all P like [] kept all h = h
firsts_all P like (x ∷ xs) kept all h = ⊎_elim
    (λ (m : list_any (λ y. like y x) kept ≡ true).
    subst (λ b. All P (fold (add_first like) (cond b kept (kept ++ x ∷ [])) xs)) (sym m) (firsts_all P like xs kept (All-tail P x xs all)
    h))
    (λ (f : list_any (λ y. like y x) kept ≡ false).
    subst (λ b. All P (fold (add_first like) (cond b kept (kept ++ x ∷ [])) xs)) (sym f)
    (firsts_all P like xs (kept ++ x ∷ []) (All-tail P x xs all) (All-push P kept x h (All-head P x xs all))))
    (cases_Bool (list_any (λ y. like y x) kept))

-- one class more is made, and kept if it is the first of its key
pub grown_more : (act : (ℕ → Bool) → ℕ → ℕ → Bool) (start : ℕ → Bool) (needs : ℕ → ℕ → Bool) (n k : ℕ) (sets : List (List ℕ))
    (kept now : List Class) (class : Class) → now ≡ add_first one_key kept class → IsClass act start needs n k class
    → AreGrown act start needs n k sets kept → AreGrown act start needs n k (sets ++ extensions needs n k class) now
grown_more act start needs n k sets kept now class is right grown = record {
  made = grown.made ++ class ∷ [];
  of_each = is ∙ ap (λ v. add_first one_key v class) grown.of_each ∙ sym (fold_push (add_first one_key) [] grown.made class);
  are = All-push (IsClass act start needs n k) grown.made class grown.are right;
  extend = flat_map-append (extensions needs n k) grown.made (class ∷ [])
      ∙ ap (λ v. flat_map (extensions needs n k) grown.made ++ v) (append-nil (extensions needs n k class))
      ∙ ap (λ v. v ++ extensions needs n k class) grown.extend;
}

pub none_grown : (act : (ℕ → Bool) → ℕ → ℕ → Bool) (start : ℕ → Bool) (needs : ℕ → ℕ → Bool) (n k : ℕ) (kept : List Class) → kept ≡ []
    → AreGrown act start needs n k [] kept
none_grown act start needs n k kept none =
    record { made = []; of_each = none; are = All-nil (IsClass act start needs n k); extend = refl }

pub none_met_yet : (end : ℕ) (index : ℕ → Option ℕ) (kept : List Class) → kept ≡ [] → AreMet end index kept
none_met_yet end index kept none =
    subst (AreMet end index) (sym none) (All-nil (λ y. is_some (index (digest_of_row end y.common)) ≡ true))
