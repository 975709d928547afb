-- Levels whose futures are all different.
use Rattle.std.proofs.Common.{◌≡◌, ◌≢◌, ◌⊎◌, inl, inr, ℕ, zero, suc, ◌+◌, ◌*◌, ◌-◌, ◌/◌, ◌%◌, ◌^◌, ◌<◌, ◌≤◌, ◌==◌, ◌||◌, ◌&&◌, not}
use Rattle.std.proofs.Common.{Bool, true, false, cond, List, [], ◌∷◌, ◌++◌, length, get_or, set, nat_lt, refl, sym, ap, ◌∙◌, subst, ⊎_elim, arith}
use Rattle.std.proofs.Common.{add-one, length-append}
use Rattle.std.proofs.lemmas.Bool.{cases_Bool, cases_eq, cases_lt, eq-eqb, eqb-true, ne_eqb, false≢true, lt-ltb, le-ltb}
use Rattle.std.proofs.lemmas.Cmp.{nat_list_cmp_total, tied_itself}
use Rattle.std.proofs.lemmas.List.{ext_get_or, get_or_push, length-map, map-append}
use Rattle.std.proofs.Math.ListN.{get_or-map}
use Rattle.std.proofs.Math.Seq.{map-set_same}
use Rattle.std.proofs.lemmas.List.Elements.{All-cons, All-head, All-nil, All-push, All-tail, All-weaker}
use Rattle.std.proofs.lemmas.Map.Lookups.{exact_bytes}
use Rattle.std.proofs.lemmas.Nat.Bits.{bit_at-lt, same_from_bits_below}
use Rattle.std.specs.Cmp.{IsTotalOrder}
use Rattle.std.specs.Cmp.Lexicographic.{slice_cmp}
use Rattle.std.specs.declared.cmp.Ordering.{Ordering}
use Rattle.std.specs.declared.cmp.Ordering.TheVariants.{Less, Equal, Greater}
use Rattle.std.specs.Int.{bit_at}
use Rattle.std.specs.List.{All, Contains, filter, range_with_len}
use Rattle.std.specs.List.Sorted.{IsSortedByKey}
use Rattle.std.specs.Ordering.{is_lt, nat_cmp, ordering_reverse}
use Rattle.cs_sets.specs.declared.count.Future.{Future}
use Rattle.cs_sets.specs.declared.row.Row.{Row}
use Rattle.cs_sets.specs.Bits.{has_bit, has_place}
use Rattle.cs_sets.specs.Chains.{IsBackward, by_chain}
use Rattle.cs_sets.specs.Counting.{HasManyFutures, IsCrowded, future_of}
use Rattle.cs_sets.specs.Crowding.{AreReached, Before, IsReached, IsRising, RisesTo, left_of, lefts}
use Rattle.cs_sets.specs.Drawing.{row_cmp}
use Rattle.cs_sets.specs.Every.{choices, every, lacking, may}
use Rattle.cs_sets.specs.Sets.{IsAllowed, is_member}
use Rattle.cs_sets.specs.Sound.{IsSound}
use Rattle.cs_sets.specs.Laws.Complete.{each_allowed}
use Rattle.cs_sets.specs.Laws.Counts.{all_at_first, below_more, below_push, future_with, future_without, none_below}
use Rattle.cs_sets.specs.Laws.Futures.{other_place}
use Rattle.cs_sets.specs.Laws.Lists.{Ordered, all_pairs, contains_flat, ordered_append}
use Rattle.cs_sets.specs.Laws.Reaching.{chains_reach, every_reach}

-- ---- rows with the same places

same_bit : (x y : ℕ) → x < 2 → y < 2 → (x == 1) ≡ (y == 1) → x ≡ y
same_bit x y low few e = ⊎_elim
    (λ (f : x ≡ 1). f ∙ sym (eqb-true y 1 (sym e ∙ eq-eqb x 1 f)))
    (λ (f : x ≡ 1 → ⊥). ⊎_elim
    (λ (g : y ≡ 1). absurd (f (eqb-true x 1 (e ∙ eq-eqb y 1 g))))
    (λ (g : y ≡ 1 → ⊥). omega (arith, low, few, f, g))
    (cases_eq y 1))
    (cases_eq x 1)

same_bits : (a b : Row) → ((j : ℕ) → has_place a j ≡ has_place b j) → (m i : ℕ) → i < 64
    → bit_at (get_or a.words m 0) i ≡ bit_at (get_or b.words m 0) i
unfolding has_place
same_bits a b same m i low =
    let j = m * 64 + i in
    let at : j / 64 ≡ m = omega (arith, low) in
    let bit : j % 64 ≡ i = omega (arith, low) in
    same_bit (bit_at (get_or a.words m 0) i) (bit_at (get_or b.words m 0) i) (bit_at-lt (get_or a.words m 0) i)
    (bit_at-lt (get_or b.words m 0) i)
    (sym (ap (λ v. bit_at (get_or a.words v 0) (j % 64) == 1) at ∙ ap (λ v. bit_at (get_or a.words m 0) v == 1) bit)
    ∙ same j
    ∙ (ap (λ v. bit_at (get_or b.words v 0) (j % 64) == 1) at ∙ ap (λ v. bit_at (get_or b.words m 0) v == 1) bit))

pub same_words : (a b : Row) → IsSound a → IsSound b → ((j : ℕ) → has_place a j ≡ has_place b j) → a.words ≡ b.words
same_words a b one other same =
    ext_get_or 0 a.words b.words (one.long ∙ sym other.long)
    (λ m l. same_from_bits_below 64 (get_or a.words m 0) (get_or b.words m 0) (one.words m (few m l)) (other.words m (few m l))
    (same_bits a b same m))
  where
    few : (m : ℕ) → m < length a.words → m < 16
    few m l = omega (arith, l, one.long)

-- ---- a future as a list

filter_low : (p : ℕ → Bool) (a m j : ℕ) → j < a → is_member (filter p (range_with_len a m)) j ≡ false
filter_low p a zero j low = refl
filter_low p a (suc m) j low = ⊎_elim
    (λ (t : p a ≡ true).
    ap (λ b. is_member (cond b (a ∷ filter p (range_with_len (a + 1) m)) (filter p (range_with_len (a + 1) m))) j) t
    ∙ ap (λ b. b || is_member (filter p (range_with_len (a + 1) m)) j) (ne_eqb a j (λ e. omega (arith, e, low)))
    ∙ filter_low p (a + 1) m j (omega (arith, low)))
    (λ (f : p a ≡ false).
    ap (λ b. is_member (cond b (a ∷ filter p (range_with_len (a + 1) m)) (filter p (range_with_len (a + 1) m))) j) f
    ∙ filter_low p (a + 1) m j (omega (arith, low)))
    (cases_Bool (p a))

filter_has : (p : ℕ → Bool) (a m j : ℕ) → a ≤ j → j < a + m → is_member (filter p (range_with_len a m)) j ≡ p j
filter_has p a zero j low high = absurd (omega (arith, low, high))
filter_has p a (suc m) j low high =
    let rest = filter p (range_with_len (a + 1) m) in
    ⊎_elim
    (λ (e : a ≡ j). ⊎_elim
    (λ (t : p a ≡ true).
    ap (λ b. is_member (cond b (a ∷ rest) rest) j) t ∙ ap (λ b. b || is_member rest j) (eq-eqb a j e) ∙ sym (ap p (sym e) ∙ t))
    (λ (f : p a ≡ false).
    ap (λ b. is_member (cond b (a ∷ rest) rest) j) f ∙ filter_low p (a + 1) m j (omega (arith, e)) ∙ sym (ap p (sym e) ∙ f))
    (cases_Bool (p a)))
    (λ (ne : a ≡ j → ⊥).
    let more = filter_has p (a + 1) m j (omega (arith, low, ne)) (omega (arith, high)) in
    ⊎_elim
    (λ (t : p a ≡ true).
    ap (λ b. is_member (cond b (a ∷ rest) rest) j) t ∙ ap (λ b. b || is_member rest j) (ne_eqb a j ne) ∙ more)
    (λ (f : p a ≡ false). ap (λ b. is_member (cond b (a ∷ rest) rest) j) f ∙ more)
    (cases_Bool (p a)))
    (cases_eq a j)

-- ---- different rows have different futures

module _ (needs : ℕ → ℕ → Bool) (n k : ℕ) (inside : k ≤ n) where
  same_may : (a b : List ℕ) → future_of needs n k a ≡ future_of needs n k b → (j : ℕ) → k ≤ j → j < n → may needs k a j ≡ may needs k b j
  same_may a b e j low high =
      let l : j < k + (n - k) = omega (arith, low, high, inside) in
      sym (filter_has (may needs k a) k (n - k) j low l) ∙ ap (λ v. is_member v j) e ∙ filter_has (may needs k b) k (n - k) j low l

  same_places : (a b : Row) (x : IsReached needs n k a) (y : IsReached needs n k b)
      → future_of needs n k x.places ≡ future_of needs n k y.places → (j : ℕ) → has_place a j ≡ has_place b j
  same_places a b x y e j = ⊎_elim
      (λ (low : j < k). x.none j low ∙ sym (y.none j low))
      (λ (low : k ≤ j). ⊎_elim
      (λ (high : j < n). x.future j low high ∙ same_may x.places y.places e j low high ∙ sym (y.future j low high))
      (λ (high : n ≤ j). x.within j high ∙ sym (y.within j high))
      (cases_lt j n))
      (cases_lt j k)

  not_before : (a b : Row) → a.words ≡ b.words → Before a b → ⊥
  not_before a b e before =
      let none : Less ≡ Equal = sym before ∙ ap (λ w. slice_cmp nat_cmp w b.words) e ∙ tied_itself nat_list_cmp_total b.words in cc none

  apart_rows : (a b : Row) (x : IsReached needs n k a) (y : IsReached needs n k b) → Before a b
      → future_of needs n k x.places ≢ future_of needs n k y.places
  apart_rows a b x y before e = not_before a b (same_words a b x.sound y.sound (same_places a b x y e)) before

  sets_of : (futures : List Future) → AreReached needs n k futures → List (List ℕ)
  sets_of [] all = []
  sets_of (f ∷ fs) all =
      let here : IsReached needs n k f.left = All-head (λ f. IsReached needs n k f.left) f fs all in
      here.places ∷ sets_of fs (All-tail (λ f. IsReached needs n k f.left) f fs all)

  as_long : (futures : List Future) (all : AreReached needs n k futures) → length (sets_of futures all) ≡ length futures
  unfolding sets_of
  as_long [] all = refl
  as_long (f ∷ fs) all = ap suc (as_long fs (All-tail (λ f. IsReached needs n k f.left) f fs all))

  are_members : (futures : List Future) (all : AreReached needs n k futures) → All (Contains (every needs k)) (sets_of futures all)
  unfolding sets_of
  are_members [] all = All-nil (Contains (every needs k))
  are_members (f ∷ fs) all =
      let here : IsReached needs n k f.left = All-head (λ f. IsReached needs n k f.left) f fs all in
      let more = All-tail (λ f. IsReached needs n k f.left) f fs all in
      All-cons (Contains (every needs k)) here.places (sets_of fs more) here.member (are_members fs more)

  all_apart : (row : Row) (x : IsReached needs n k row) (futures : List Future) (all : AreReached needs n k futures)
      → All (Before row) (lefts futures) → All (λ b. future_of needs n k x.places ≢ future_of needs n k b) (sets_of futures all)
  unfolding sets_of
  all_apart row x [] all later = All-nil (λ b. future_of needs n k x.places ≢ future_of needs n k b)
  all_apart row x (f ∷ fs) all later =
      let here : IsReached needs n k f.left = All-head (λ f. IsReached needs n k f.left) f fs all in
      let more = All-tail (λ f. IsReached needs n k f.left) f fs all in
      All-cons (λ b. future_of needs n k x.places ≢ future_of needs n k b) here.places (sets_of fs more)
      (apart_rows row f.left x here (All-head (Before row) f.left (lefts fs) later))
      (all_apart row x fs more (All-tail (Before row) f.left (lefts fs) later))

  ordered_apart : (futures : List Future) (all : AreReached needs n k futures) → IsRising (lefts futures)
      → Ordered (λ a b. future_of needs n k a ≢ future_of needs n k b) (sets_of futures all)
  unfolding sets_of
  ordered_apart [] all rising = tt
  ordered_apart (f ∷ fs) all rising =
      let here : IsReached needs n k f.left = All-head (λ f. IsReached needs n k f.left) f fs all in
      let more = All-tail (λ f. IsReached needs n k f.left) f fs all in
      (all_apart f.left here fs more rising.0, ordered_apart fs more rising.1)

  pub crowded : (futures : List Future) (most : ℕ) → AreReached needs n k futures → IsRising (lefts futures) → most < length futures
      → IsCrowded needs n most
  crowded futures most all rising many =
      let long = as_long futures all in
      record {
        place = k;
        inside = inside;
        sets = sets_of futures all;
        many = omega (arith, long, many);
        members = are_members futures all;
        apart = all_pairs (λ a b. future_of needs n k a ≢ future_of needs n k b) (sets_of futures all) (ordered_apart futures all rising);
      }

-- ---- a level from the one before it

module _ (needs : ℕ → ℕ → Bool) (n k : ℕ) (low : k < n) (left : Row) (at : IsReached needs n k left) where
  next_every : every needs (suc k) ≡ every needs (k + 1)
  next_every = ap (every needs) (sym (add-one k))

  pub reached_without : (out : Row) → IsSound out
      → ((j : ℕ) → has_place out j ≡ (lacking needs k (has_place left) j && not (j == k)))
      → IsReached needs n (k + 1) out
  reached_without out sound is = record {
    places = at.places;
    below = below_more k at.places at.below;
    member = subst (λ v. Contains v at.places) next_every
        (contains_flat (choices needs k) (every needs k) at.places at.places at.member (0, omega arith, refl));
    future = λ j high few. is j ∙ other_place (lacking needs k (has_place left) j) j k high
        ∙ future_without needs n k at.places (has_place left) at.below at.future j high few;
    none = λ j few. is j ∙ ⊎_elim
        (λ (e : j ≡ k). ap (λ b. lacking needs k (has_place left) j && not b) (eq-eqb j k e)
        ∙ and_false (lacking needs k (has_place left) j))
        (λ (ne : j ≡ k → ⊥). ap (λ b. (b && not (needs k j)) && not (j == k)) (at.none j (omega (arith, few, ne))))
        (cases_eq j k);
    within = λ j high. is j ∙ ap (λ b. (b && not (needs k j)) && not (j == k)) (at.within j high);
    sound = sound;
  }
    where
      and_false : (b : Bool) → (b && false) ≡ false
      and_false true = refl
      and_false false = refl

  pub reached_with : (kept : Row) → IsSound kept → ((j : ℕ) → has_place kept j ≡ (has_place left j && not (j == k)))
      → has_place left k ≡ true → IsReached needs n (k + 1) kept
  reached_with kept sound is here =
      let may_be : may needs k at.places k ≡ true = sym (at.future k (omega arith) low) ∙ here in
      let other : Contains (choices needs k at.places) (at.places ++ k ∷ []) =
      subst (λ b. Contains (at.places ∷ cond b ((at.places ++ k ∷ []) ∷ []) []) (at.places ++ k ∷ [])) (sym may_be)
      (1, omega arith, refl) in
      record {
        places = at.places ++ k ∷ [];
        below = below_push k at.places at.below;
        member = subst (λ v. Contains v (at.places ++ k ∷ [])) next_every
            (contains_flat (choices needs k) (every needs k) at.places (at.places ++ k ∷ []) at.member other);
        future = λ j high few. is j ∙ other_place (has_place left j) j k high
            ∙ future_with needs n k at.places (has_place left) at.future j high few;
        none = λ j few. is j ∙ ⊎_elim
            (λ (e : j ≡ k). ap (λ b. has_place left j && not b) (eq-eqb j k e) ∙ and_false (has_place left j))
            (λ (ne : j ≡ k → ⊥). ap (λ b. b && not (j == k)) (at.none j (omega (arith, few, ne))))
            (cases_eq j k);
        within = λ j high. is j ∙ ap (λ b. b && not (j == k)) (at.within j high);
        sound = sound;
      }
    where
      and_false : (b : Bool) → (b && false) ≡ false
      and_false true = refl
      and_false false = refl

pub reached_first : (needs : ℕ → ℕ → Bool) (n : ℕ) (left : Row) → IsSound left → ((j : ℕ) → has_place left j ≡ nat_lt j n)
    → IsReached needs n 0 left
reached_first needs n left sound is = record {
  places = [];
  below = none_below;
  member = (0, omega arith, refl);
  future = all_at_first needs n (has_place left) (λ j low. is j ∙ lt-ltb j n low);
  none = λ j low. absurd (omega (arith, low));
  within = λ j high. is j ∙ le-ltb j n high;
  sound = sound;
}

-- ---- rows that ascend

rows_total : IsTotalOrder (slice_cmp nat_cmp)
rows_total = nat_list_cmp_total

pub rises_one : (row : Row) → RisesTo (row ∷ []) row
rises_one row = record {
  rising = (All-nil (Before row), tt);
  upto = All-cons (λ a. Before a row ⊎ (a ≡ row)) row [] (inr refl) (All-nil (λ a. Before a row ⊎ (a ≡ row)));
  some = omega arith;
  ends = λ d. refl;
}

-- a row that isn't less than the last, and isn't the last, comes after it
comes_after : (last row : Row) → is_lt (row_cmp row last) ≡ false → (last.words ≡ row.words → ⊥) → Before last row
comes_after last row not_less other = by_answer (row_cmp row last) refl
  where
    by_answer : (o : Ordering) → o ≡ row_cmp row last → Before last row
    by_answer Less e = absurd (false≢true (sym not_less ∙ ap is_lt (sym e)))
    by_answer Equal e = absurd (other (sym (exact_bytes row.words last.words (sym e))))
    by_answer Greater e = rows_total.antisymm last.words row.words ∙ ap ordering_reverse (sym e)

pub rises_more : (rows : List Row) (last row : Row) → RisesTo rows last → is_lt (row_cmp row last) ≡ false → (last.words ≡ row.words → ⊥)
    → RisesTo (rows ++ row ∷ []) row
rises_more rows last row so_far not_less other =
    let before = comes_after last row not_less other in
    let all : All (λ a. Before a row) rows = All-weaker (λ a. Before a last ⊎ (a ≡ last)) (λ a. Before a row)
    (λ a h. ⊎_elim
    (λ (b : Before a last). rows_total.trans a.words last.words row.words b before)
    (λ (e : a ≡ last). ap (λ v. row_cmp v row) e ∙ before)
    h) rows so_far.upto in
    record {
      rising = ordered_append Before rows (row ∷ []) so_far.rising (All-nil (Before row), tt)
          (All-weaker (λ a. Before a row) (λ a. All (Before a) (row ∷ []))
          (λ a h. All-cons (Before a) row [] h (All-nil (Before a))) rows all);
      upto = All-push (λ a. Before a row ⊎ (a ≡ row)) rows row (All-weaker (λ a. Before a row) (λ a. Before a row ⊎ (a ≡ row))
          (λ a h. inl h) rows all)
          (inr refl);
      some = omega (arith, length-append rows (row ∷ []));
      ends = λ d. get_or_push rows row d (length (rows ++ row ∷ []) - 1) (omega (arith, length-append rows (row ∷ [])));
    }

-- ---- in the code's words

pub first_reached : (needs : ℕ → ℕ → Bool) (n : ℕ) (left : Row) (futures : List Future) (sets : ℕ) → IsSound left
    → ((j : ℕ) → has_place left j ≡ nat_lt j n) → futures ≡ [] ++ record { left = left; sets = sets } ∷ [] → AreReached needs n 0 futures
first_reached needs n left futures sets sound is e =
    subst (λ (v : List Future). AreReached needs n 0 v) (sym e)
    (All-cons (λ f. IsReached needs n 0 f.left) (record { left = left; sets = sets }) [] (reached_first needs n left sound is)
    (All-nil (λ f. IsReached needs n 0 f.left)))

-- one is pushed
pub pushed_reached : (needs : ℕ → ℕ → Bool) (n k : ℕ) (old new : List Future) (future : Future) → AreReached needs n k old
    → IsReached needs n k future.left → new ≡ old ++ future ∷ [] → AreReached needs n k new
pushed_reached needs n k old new future all here e =
    subst (λ (v : List Future). AreReached needs n k v) (sym e) (All-push (λ f. IsReached needs n k f.left) old future all here)

-- the last has the same row, and is replaced
pub rises_same : (futures : List Future) (at : ℕ) (both future d : Future) (last : Row) → RisesTo (lefts futures) last
    → at ≡ length futures - 1 → at < length futures → both.left ≡ (get_or futures at d).left → both.left ≡ future.left
    → RisesTo (lefts (set futures at both)) future.left
rises_same futures at both future d last so_far is there same is_left =
    let e : lefts (set futures at both) ≡ lefts futures = map-set_same left_of futures at both d same in
    let long : length (lefts futures) ≡ length futures = length-map futures left_of in
    let f : length (lefts futures) - 1 ≡ at = omega (arith, long, is) in
    let g : get_or (lefts futures) at d.left ≡ (get_or futures at d).left = get_or-map left_of futures at d in
    let h : last ≡ future.left =
    sym (so_far.ends d.left) ∙ ap (λ i. get_or (lefts futures) i d.left) f ∙ g ∙ sym same ∙ is_left in
    subst (λ (v : List Row). RisesTo v future.left) (sym e) (subst (λ (r : Row). RisesTo (lefts futures) r) h so_far)

-- one is pushed that isn't the last
pub rises_pushed : (futures new : List Future) (future : Future) (last : Row) → RisesTo (lefts futures) last
    → is_lt (row_cmp future.left last) ≡ false → (last.words ≡ future.left.words → ⊥) → new ≡ futures ++ future ∷ []
    → RisesTo (lefts new) future.left
rises_pushed futures new future last so_far not_less other e =
    subst (λ (v : List Row). RisesTo v future.left) (sym (ap lefts e ∙ map-append left_of futures (future ∷ [])))
    (rises_more (lefts futures) last future.left so_far not_less other)

pub last_left : (futures : List Future) (at : ℕ) (last : Row) (d : Future) → RisesTo (lefts futures) last → at ≡ length futures - 1
    → last ≡ (get_or futures at d).left
last_left futures at last d so_far is =
    let long : length (lefts futures) ≡ length futures = length-map futures left_of in
    let f : length (lefts futures) - 1 ≡ at = omega (arith, long, is) in
    sym (so_far.ends d.left) ∙ ap (λ i. get_or (lefts futures) i d.left) f ∙ get_or-map left_of futures at d

-- what is merged so far of ascending futures
pub record IsMerged (futures : List Future) (i : ℕ) (merged : List Future) : Type 0 where
  pub none : i ≡ 0 → merged ≡ []
  pub some : (d : Future) → 0 < i → RisesTo (lefts merged) (get_or futures (i - 1) d).left

pub merged_none : (futures : List Future) → IsMerged futures 0 []
merged_none futures = record { none = λ e. refl; some = λ d low. absurd (omega (arith, low)) }

pub merged_more : (futures : List Future) (i : ℕ) (merged new : List Future) (future : Future) → i < length futures
    → ((d : Future) → get_or futures i d ≡ future) → IsSortedByKey left_of row_cmp futures → IsMerged futures i merged
    → (merged ≡ [] → RisesTo (lefts new) future.left)
    → ((last : Row) → RisesTo (lefts merged) last → is_lt (row_cmp future.left last) ≡ false → RisesTo (lefts new) future.left)
    → IsMerged futures (i + 1) new
merged_more futures i merged new future low is sorted so_far first next = record {
  none = λ e. absurd (omega (arith, e));
  some = λ d z.
      let at : (i + 1) - 1 ≡ i = omega arith in
      let here : future.left ≡ (get_or futures ((i + 1) - 1) d).left = sym (ap (λ k. (get_or futures k d).left) at ∙ ap left_of (is d)) in
      subst (λ (r : Row). RisesTo (lefts new) r) here (⊎_elim
      (λ (e : i ≡ 0). first (so_far.none e))
      (λ (ne : i ≡ 0 → ⊥).
      let pos : 0 < i = omega (arith, ne) in
      let e : (i - 1) + 1 ≡ i = omega (arith, ne) in
      let below : (i - 1) + 1 < length futures = omega (arith, low, ne) in
      let not_less : is_lt (row_cmp future.left (get_or futures (i - 1) d).left) ≡ false =
      ap (λ f. is_lt (row_cmp f.left (get_or futures (i - 1) d).left)) (sym (ap (λ k. get_or futures k d) e ∙ is d))
      ∙ sorted (i - 1) d (omega arith) below in
      next (get_or futures (i - 1) d).left (so_far.some d pos) not_less)
      (cases_eq i 0));
}

pub merged_rises : (futures : List Future) (i : ℕ) (merged : List Future) → i ≡ length futures → IsMerged futures i merged
    → IsRising (lefts merged)
merged_rises futures i merged whole so_far = ⊎_elim
    (λ (e : i ≡ 0). subst (λ (v : List Future). IsRising (lefts v)) (sym (so_far.none e)) tt)
    (λ (ne : i ≡ 0 → ⊥). by_list futures i merged so_far ne whole)
    (cases_eq i 0)
  where
    by_list : (futures : List Future) (i : ℕ) (merged : List Future) → IsMerged futures i merged → (i ≡ 0 → ⊥) → i ≡ length futures
        → IsRising (lefts merged)
    by_list [] i merged so_far ne whole = absurd (ne whole)
    by_list (f ∷ fs) i merged so_far ne whole = (let r = so_far.some f (omega (arith, ne)) in r.rising)

-- ---- the allowed sets of an order

module _ (needs : ℕ → ℕ → Bool) (back : IsBackward needs) (n most : ℕ) where
  member_allowed : (k : ℕ) (places : List ℕ) → Contains (every (by_chain needs) k) places → IsAllowed needs k places
  member_allowed k places there =
      let all : All (IsAllowed needs k) (every (by_chain needs) k) =
      subst (λ v. All (IsAllowed needs k) v) (every_reach needs (by_chain needs) (chains_reach needs back) k) (each_allowed needs back k) in
      subst (IsAllowed needs k) there.2 (all there.0 places there.1)

  pub many_futures : (rows : ℕ → ℕ → Bool) (m : ℕ) → rows ≡ by_chain needs → m ≡ n → IsCrowded rows m most → HasManyFutures needs n most
  many_futures rows m e f crowd =
      let is : IsCrowded (by_chain needs) n most =
      subst (λ v. IsCrowded (by_chain needs) v most) f (subst (λ (v : ℕ → ℕ → Bool). IsCrowded v m most) e crowd) in
      record {
        place = is.place;
        inside = is.inside;
        sets = is.sets;
        many = is.many;
        allowed = All-weaker (Contains (every (by_chain needs) is.place)) (IsAllowed needs is.place) (member_allowed is.place) is.sets
            is.members;
        apart = is.apart;
      }
