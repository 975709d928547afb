-- Counts by futures, and the member with a number.
use Rattle.std.proofs.Common.{◌≡◌, ◌≢◌, ℕ, suc, ◌+◌, ◌-◌, ◌<◌, ◌≤◌, ◌==◌, ◌&&◌, ◌||◌, not, min, cond, Bool, true, false, List, [], ◌∷◌, ◌++◌}
use Rattle.std.proofs.Common.{Option, Some, length, get_or, refl, sym, ap, ◌∙◌, ⊎_elim, arith, subst, length-append}
use Rattle.std.proofs.lemmas.Bool.{cases_Bool, cases_eq, cases_lt, eq-eqb, ne_eqb, false≢true, or_left}
use Rattle.std.proofs.lemmas.List.{get_or_append_left, get_or-append_right}
use Rattle.std.proofs.lemmas.Map.Lookups.{CmpEqualImpliesEq, exact_bytes}
use Rattle.std.proofs.lemmas.Map.Views.{tells_apart}
use Rattle.std.specs.BTreeMap.{is_at}
use Rattle.std.specs.Prelude.{IfSome}
use Rattle.cs_sets.specs.declared.draw.Draw.{Draw}
use Rattle.cs_sets.specs.declared.row.Row.{Row}
use Rattle.cs_sets.specs.Bits.{has_place}
use Rattle.cs_sets.specs.Drawing.{AreCounts, IsCount, IsDraw, row_cmp}
use Rattle.cs_sets.specs.Every.{every, extending, lacking}
use Rattle.cs_sets.specs.Finding.{HasNone, IsNext}
use Rattle.cs_sets.specs.Following.{chosen}
use Rattle.cs_sets.specs.Places.{IsWithin, places_of}
use Rattle.cs_sets.specs.Reach.{IsTransitive}
use Rattle.cs_sets.specs.Laws.Chosen.{places_read}
use Rattle.cs_sets.specs.Laws.Counts.{every_is}
use Rattle.cs_sets.specs.Laws.Following.{chosen_on, chosen_same, chosen_with}
use Rattle.cs_sets.specs.Laws.Futures.{other_place}
use Rattle.cs_sets.specs.Laws.Walking.{IsAt, IsStep, ends, steps}

exact_rows : CmpEqualImpliesEq row_cmp
exact_rows a b h = ap (λ w. (let r : Row = record { words = w } in r)) (exact_bytes a.words b.words h)

none_joined : (has : ℕ → Bool) (a b : ℕ) → HasNone has 0 a → HasNone has a b → HasNone has 0 b
none_joined has a b low high i l u = ⊎_elim
    (λ (under : i < a). low i l under)
    (λ (over : a ≤ i). high i over u)
    (cases_lt i a)

-- a place is out of a row
cut_one : (p : ℕ → Bool) (i place : ℕ) → p i ≡ false → (p i && not (i == place)) ≡ false
cut_one p i place f = ap (λ b. b && not (i == place)) f

cut_here : (b : Bool) (i place : ℕ) → i ≡ place → (b && not (i == place)) ≡ false
cut_here b i place e = ap (λ c. b && not c) (eq-eqb i place e) ∙ and_false b
  where
    and_false : (b : Bool) → (b && false) ≡ false
    and_false true = refl
    and_false false = refl

-- none up to a place that was taken out
none_after : (p q : ℕ → Bool) (place : ℕ) → HasNone p 0 place → ((i : ℕ) → q i ≡ (p i && not (i == place))) → HasNone q 0 (place + 1)
none_after p q place none is i l u = is i ∙ ⊎_elim
    (λ (e : i ≡ place). cut_here (p i) i place e)
    (λ (ne : i ≢ place). cut_one p i place (none i l (omega (arith, u, ne))))
    (cases_eq i place)

still_at : (needs : ℕ → ℕ → Bool) (n place : ℕ) (places : List ℕ) (p q : ℕ → Bool) → ((i : ℕ) → q i ≡ (p i && not (i == place)))
    → IsAt needs n (place + 1) places p → IsAt needs n (place + 1) places q
still_at needs n place places p q is at = record {
  below = at.below;
  future = λ j high low. is j ∙ other_place (p j) j place high ∙ at.future j high low;
}

lacks_none : (needs : ℕ → ℕ → Bool) (k : ℕ) (has : ℕ → Bool) (end : ℕ) → HasNone has 0 end → HasNone (lacking needs k has) 0 end
lacks_none needs k has end none i l u = ap (λ b. b && not (needs k i)) (none i l u)

module _ (needs : ℕ → ℕ → Bool) (chained : IsTransitive needs) (n most : ℕ) (some : 0 < most) where
  -- nothing is left: only the set itself
  pub one_left : (left : Row) (first : ℕ) → HasNone (has_place left) 0 first → HasNone (has_place left) first n
      → IsCount needs n most left 1
  one_left left first low high k places inside none at =
      let all = none_joined (has_place left) first n low high in
      let e = ap length (ends needs chained n k places (has_place left) inside at (λ i l u. all i (omega arith) u)) in
      omega (arith, e, some)

  module _ (left : Row) (first place : ℕ) (none : HasNone (has_place left) 0 first) (next : IsNext (has_place left) first n place) where
    before : HasNone (has_place left) 0 place
    before = none_joined (has_place left) first place none next.none_before

    pub from_here : (k : ℕ) → HasNone (has_place left) 0 k → k ≤ place
    from_here k under = ⊎_elim
        (λ (l : place < k). absurd (false≢true (sym (under place (omega arith) l) ∙ next.is_there)))
        (λ (h : k ≤ place). h)
        (cases_lt place k)

    next_from : (k : ℕ) → HasNone (has_place left) 0 k → IsNext (has_place left) k n place
    next_from k under = record {
      from_first = from_here k under;
      before_end = next.before_end;
      is_there = next.is_there;
      none_before = λ i l u. before i (omega arith) u;
    }

    pub step_from : (k : ℕ) (places : List ℕ) → HasNone (has_place left) 0 k → IsAt needs n k places (has_place left)
        → IsStep needs chained n k place places (has_place left)
    step_from k places under at = steps needs chained n k place places (has_place left) at (next_from k under)

    module _ (without : Row) (out : (i : ℕ) → has_place without i ≡ (lacking needs place (has_place left) i && not (i == place))) where
      pub none_without : HasNone (has_place without) 0 (place + 1)
      none_without = none_after (lacking needs place (has_place left)) (has_place without) place
          (lacks_none needs place (has_place left) place before) out

      pub fewer_is : (fewer : ℕ) → IsCount needs n most without fewer → (k : ℕ) (places : List ℕ) → HasNone (has_place left) 0 k
          → IsAt needs n k places (has_place left) → fewer ≡ min (length (extending needs (n - (place + 1)) (place + 1) places)) most
      fewer_is fewer count k places under at =
          let to = next.before_end in
          count (place + 1) places (omega (arith, to)) none_without
          (still_at needs n place places (lacking needs place (has_place left)) (has_place without) out
          (step_from k places under at).without)

    module _ (kept : Row) (within : (i : ℕ) → has_place kept i ≡ (has_place left i && not (i == place))) where
      pub none_kept : HasNone (has_place kept) 0 (place + 1)
      none_kept = none_after (has_place left) (has_place kept) place before within

      pub more_is : (more : ℕ) → IsCount needs n most kept more → (k : ℕ) (places : List ℕ) → HasNone (has_place left) 0 k
          → IsAt needs n k places (has_place left)
          → more ≡ min (length (extending needs (n - (place + 1)) (place + 1) (places ++ place ∷ []))) most
      more_is more count k places under at =
          let to = next.before_end in
          count (place + 1) (places ++ place ∷ []) (omega (arith, to)) none_kept
          (still_at needs n place (places ++ place ∷ []) (has_place left) (has_place kept) within (step_from k places under at).«with»)

    -- those without the place, and those with it
    pub both_counted : (without : Row) → ((i : ℕ) → has_place without i ≡ (lacking needs place (has_place left) i && not (i == place)))
        → (kept : Row) → ((i : ℕ) → has_place kept i ≡ (has_place left i && not (i == place))) → (fewer more count : ℕ)
        → IsCount needs n most without fewer → IsCount needs n most kept more → count ≡ min (fewer + more) most
        → IsCount needs n most left count
    both_counted without out kept within fewer more count f m e k places inside under at =
        let one = extending needs (n - (place + 1)) (place + 1) places in
        let two = extending needs (n - (place + 1)) (place + 1) (places ++ place ∷ []) in
        let sum = ap length (step_from k places under at).sets ∙ length-append one two in
        let a = fewer_is without out fewer f k places under at in
        let b = more_is kept within more m k places under at in
        omega (arith, e, a, b, sum)

-- one count more is known
pub count_known : (needs : ℕ → ℕ → Bool) (n most : ℕ) (known now : Row → Option ℕ) (left : Row) (count : ℕ) → AreCounts needs n most known
    → IsCount needs n most left count → ((q : Row) → now q ≡ cond (is_at (row_cmp left) q) (Some count) (known q))
    → AreCounts needs n most now
count_known needs n most known now left count all is updated q = ⊎_elim
    (λ (t : is_at (row_cmp left) q ≡ true).
    subst (λ o. IfSome o (IsCount needs n most q)) (sym (updated q ∙ ap (λ b. cond b (Some count) (known q)) t))
    (subst (λ r. IsCount needs n most r count) (tells_apart exact_rows left q t) is))
    (λ (f : is_at (row_cmp left) q ≡ false).
    subst (λ o. IfSome o (IsCount needs n most q)) (sym (updated q ∙ ap (λ b. cond b (Some count) (known q)) f)) (all q))
    (cases_Bool (is_at (row_cmp left) q))

-- a count that is known
pub known_count : (needs : ℕ → ℕ → Bool) (n most : ℕ) (known : Row → Option ℕ) (left : Row) (count : ℕ) → AreCounts needs n most known
    → known left ≡ Some count → IsCount needs n most left count
known_count needs n most known left count all e = subst (λ o. IfSome o (IsCount needs n most left)) e (all left)

-- ---- one place is decided

module _ (needs : ℕ → ℕ → Bool) (chained : IsTransitive needs) (n most number : ℕ) (some : 0 < most) (old : Draw) (place : ℕ)
    (draw : IsDraw needs n most number old) (next : IsNext (has_place old.left) old.first n place) (without : Row)
    (out : (i : ℕ) → has_place without i ≡ (lacking needs place (has_place old.left) i && not (i == place))) (fewer : ℕ)
    (count : IsCount needs n most without fewer) where
  abbrev places : List ℕ
  places = chosen (has_place old.members) old.first

  abbrev one : List (List ℕ)
  one = extending needs (n - (place + 1)) (place + 1) places

  abbrev two : List (List ℕ)
  two = extending needs (n - (place + 1)) (place + 1) (places ++ place ∷ [])

  abbrev all : List (List ℕ)
  all = extending needs (n - old.first) old.first places

  step : IsStep needs chained n old.first place places (has_place old.left)
  step = step_from needs chained n most some old.left old.first place draw.none next old.first places draw.none draw.at

  sum : length all ≡ length one + length two
  sum = ap length step.sets ∙ length-append one two

  exactly : fewer ≡ length one
  exactly =
      let f = fewer_is needs chained n most some old.left old.first place draw.none next without out fewer count old.first places draw.none
      draw.at in
      let under = draw.few in omega (arith, f, sum, under)

  lower : chosen (has_place old.members) (place + 1) ≡ places
  lower =
      let from = next.from_first in
      let e : place + 1 ≡ old.first + ((place + 1) - old.first) = omega (arith, from) in
      ap (chosen (has_place old.members)) e
      ∙ chosen_on (has_place old.members) old.first ((place + 1) - old.first) (λ i low high. draw.within i low)

  -- the number is one of those without the place
  pub without_drawn : old.rest < fewer
      → IsDraw needs n most number (record { first = place + 1; left = without; members = old.members; rest = old.rest })
  without_drawn low =
      let from = next.from_first in let to = next.before_end in let under = draw.few in
      record {
        inside = omega (arith, to);
        none = none_without needs chained n most some old.left old.first place draw.none next without out;
        at = subst (λ v. IsAt needs n (place + 1) v (has_place without)) (sym lower)
            (still_at needs n place places (lacking needs place (has_place old.left)) (has_place without) out step.without);
        within = λ i high. draw.within i (omega (arith, from, high));
        few = subst (λ v. length (extending needs (n - (place + 1)) (place + 1) v) < most) (sym lower) (omega (arith, sum, under));
        low = subst (λ v. old.rest < length (extending needs (n - (place + 1)) (place + 1) v)) (sym lower) (omega (arith, low, exactly));
        is = draw.is ∙ ap (λ v. get_or v old.rest []) step.sets ∙ get_or_append_left one two [] old.rest (omega (arith, low, exactly))
            ∙ ap (λ v. get_or (extending needs (n - (place + 1)) (place + 1) v) old.rest []) (sym lower);
      }

  module _ (kept members : Row) (within : (i : ℕ) → has_place kept i ≡ (has_place old.left i && not (i == place)))
      (added : (i : ℕ) → has_place members i ≡ (i == place || has_place old.members i)) where
    higher : chosen (has_place members) (place + 1) ≡ places ++ place ∷ []
    higher =
        let from = next.from_first in
        let s : place + 1 ≡ suc place = omega arith in
        let e : place ≡ old.first + (place - old.first) = omega (arith, from) in
        ap (chosen (has_place members)) s
        ∙ chosen_with (has_place members) place (added place ∙ or_left (place == place) (has_place old.members place)
        (eq-eqb place place refl))
        ∙ ap (λ v. v ++ place ∷ [])
        (chosen_same (has_place members) (has_place old.members) place
        (λ i low. added i ∙ ap (λ b. b || has_place old.members i) (ne_eqb i place (λ q. omega (arith, low, q))))
        ∙ ap (chosen (has_place old.members)) e
        ∙ chosen_on (has_place old.members) old.first (place - old.first) (λ i low high. draw.within i low))

    -- or of those with it
    pub with_drawn : fewer ≤ old.rest
        → IsDraw needs n most number (record { first = place + 1; left = kept; members = members; rest = old.rest - fewer })
    with_drawn high =
        let from = next.from_first in let to = next.before_end in let under = draw.few in let low = draw.low in
        let e : old.rest - length one ≡ old.rest - fewer = omega (arith, exactly) in
        record {
          inside = omega (arith, to);
          none = none_kept needs chained n most some old.left old.first place draw.none next kept within;
          at = subst (λ v. IsAt needs n (place + 1) v (has_place kept)) (sym higher)
              (still_at needs n place (places ++ place ∷ []) (has_place old.left) (has_place kept) within step.«with»);
          within = λ i over. added i ∙ ap (λ b. b || has_place old.members i) (ne_eqb i place (λ q. omega (arith, over, q)))
              ∙ draw.within i (omega (arith, from, over));
          few = subst (λ v. length (extending needs (n - (place + 1)) (place + 1) v) < most) (sym higher) (omega (arith, sum, under));
          low = subst (λ v. old.rest - fewer < length (extending needs (n - (place + 1)) (place + 1) v)) (sym higher)
              (omega (arith, sum, low, high, exactly));
          is = draw.is ∙ ap (λ v. get_or v old.rest []) step.sets
              ∙ get_or-append_right one two (length one) old.rest [] refl (omega (arith, high, exactly))
              ∙ ap (λ r. get_or two r []) e
              ∙ ap (λ v. get_or (extending needs (n - (place + 1)) (place + 1) v) (old.rest - fewer) []) (sym higher);
        }

-- nothing is decided yet
pub first_draw : (needs : ℕ → ℕ → Bool) (n most number : ℕ) (draw : Draw) → draw.first ≡ 0 → IsAt needs n 0 [] (has_place draw.left)
    → IsWithin 0 draw.members → draw.rest ≡ number → length (every needs n) < most → number < length (every needs n)
    → IsDraw needs n most number draw
first_draw needs n most number draw z at within rest few low =
    let m : n - 0 ≡ n = omega arith in
    let e : every needs n ≡ extending needs (n - 0) 0 [] = every_is needs n ∙ ap (λ v. extending needs v 0 []) (sym m) in
    let same : (chosen (has_place draw.members) draw.first) ≡ [] = ap (chosen (has_place draw.members)) z in
    let sets : every needs n ≡ extending needs (n - draw.first) draw.first (chosen (has_place draw.members) draw.first) =
    e ∙ ap (λ k. extending needs (n - k) k []) (sym z) ∙ ap (extending needs (n - draw.first) draw.first) (sym same) in
    record {
      inside = omega (arith, z);
      none = λ i l u. absurd (omega (arith, u, z));
      at = subst (λ v. IsAt needs n draw.first v (has_place draw.left)) (sym same)
          (subst (λ k. IsAt needs n k [] (has_place draw.left)) (sym z) at);
      within = λ k high. within k (omega arith);
      few = subst (λ v. length v < most) sets few;
      low = subst (λ r. r < length (extending needs (n - draw.first) draw.first (chosen (has_place draw.members) draw.first))) (sym rest)
          (subst (λ v. number < length v) sets low);
      is = ap (λ v. get_or v number []) sets
          ∙ ap (λ r. get_or (extending needs (n - draw.first) draw.first (chosen (has_place draw.members) draw.first)) r []) (sym rest);
    }

-- all is decided
pub last_draw : (needs : ℕ → ℕ → Bool) (chained : IsTransitive needs) (n most number : ℕ) (draw : Draw) → n ≤ 1024
    → IsDraw needs n most number draw → HasNone (has_place draw.left) draw.first n
    → places_of draw.members ≡ get_or (every needs n) number []
last_draw needs chained n most number draw few is none =
    let places = chosen (has_place draw.members) draw.first in
    let one = ends needs chained n draw.first places (has_place draw.left) is.inside is.at none in
    let low = is.low in
    let inside = is.inside in
    let count = ap length one in
    let zero_rest : draw.rest ≡ 0 = omega (arith, low, count) in
    places_read draw.members draw.first (omega (arith, inside, few)) is.within
    ∙ sym (is.is ∙ ap (λ v. get_or v draw.rest []) one ∙ ap (λ r. get_or (places ∷ []) r []) zero_rest)
