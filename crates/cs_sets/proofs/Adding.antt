-- The last place that can be added, looked for from the end.
use Rattle.std.proofs.Common.{◌≡◌, ℕ, ◌+◌, ◌-◌, ◌<◌, ◌≤◌, ◌==◌, ◌&&◌, ◌||◌, not, nat_lt, Bool, true, false, cond, List, [], ◌∷◌, ◌++◌, length, get_or}
use Rattle.std.proofs.Common.{refl, sym, ap, ◌∙◌, ⊎_elim, arith, subst}
use Rattle.std.proofs.lemmas.Bool.{cases_eq, eq-eqb, ne_eqb, lt-ltb, le-ltb, and_parts, and_from, or_cases, or_right, eqb-true, ltb-true, false≢true}
use Rattle.cs_sets.specs.declared.row.Row.{Row}
use Rattle.cs_sets.specs.Bits.{has_place}
use Rattle.cs_sets.specs.Following.{chosen, every_from, IsClosed, IsFree, HasNoneFree, IsLastFree, cut_with}
use Rattle.cs_sets.specs.Nexts.{IsAdded}
use Rattle.cs_sets.specs.Places.{IsSet, places_of}
use Rattle.cs_sets.specs.Rows.{bit_in}
use Rattle.cs_sets.specs.Chains.{IsBackward}
use Rattle.cs_sets.specs.Laws.Chosen.{cut_chosen, none_read, places_read}
use Rattle.cs_sets.specs.Laws.Following.{chosen_same, none_follows, one_follows}
use Rattle.cs_sets.proofs.Needing.{bit_read, below_next}

-- what is left below a place
abbrev pub IsCut : (ℕ → Bool) → (ℕ → Bool) → ℕ → Type 0
IsCut old now place = (k : ℕ) → now k ≡ (nat_lt k place && old k)

here : (old now : ℕ → Bool) (place : ℕ) → 0 < place → IsCut old now place → now (place - 1) ≡ old (place - 1)
here old now place low cut =
    cut (place - 1) ∙ ap (λ b. b && old (place - 1)) (lt-ltb (place - 1) place (omega (arith, low)))

-- one place less, without it
pub cut_less : (old now then : ℕ → Bool) (place : ℕ) → 0 < place → IsCut old now place
    → ((k : ℕ) → then k ≡ (now k && not (k == place - 1))) → IsCut old then (place - 1)
cut_less old now then place low cut is k = ⊎_elim
    (λ (e : k ≡ place - 1).
    is k ∙ ap (λ b. now k && not b) (eq-eqb k (place - 1) e) ∙ and_false (now k)
    ∙ sym (ap (λ b. b && old k) (le-ltb k (place - 1) (omega (arith, e)))))
    (λ (ne : k ≡ place - 1 → ⊥).
    is k ∙ ap (λ b. now k && not b) (ne_eqb k (place - 1) ne) ∙ and_true (now k) ∙ less old now place low cut k ne)
    (cases_eq k (place - 1))
  where
    and_true : (b : Bool) → (b && true) ≡ b
    and_true true = refl
    and_true false = refl

    and_false : (b : Bool) → (b && false) ≡ false
    and_false true = refl
    and_false false = refl

    less : (old now : ℕ → Bool) (place : ℕ) → 0 < place → IsCut old now place → (k : ℕ) → (k ≡ place - 1 → ⊥)
        → now k ≡ (nat_lt k (place - 1) && old k)
    less old now place low cut k ne =
        let e : place ≡ (place - 1) + 1 = omega (arith, low) in
        cut k ∙ ap (λ v. nat_lt k v && old k) e ∙ below_next k (place - 1) (old k) ne

-- it isn't there anyway
pub cut_same : (old now : ℕ → Bool) (place : ℕ) → 0 < place → IsCut old now place → now (place - 1) ≡ false → IsCut old now (place - 1)
cut_same old now place low cut f =
    cut_less old now now place low cut (λ k. ⊎_elim
    (λ (e : k ≡ place - 1). ap now e ∙ f ∙ sym (ap (λ b. now k && not b) (eq-eqb k (place - 1) e) ∙ and_false (now k)))
    (λ (ne : k ≡ place - 1 → ⊥). sym (ap (λ b. now k && not b) (ne_eqb k (place - 1) ne) ∙ and_true (now k)))
    (cases_eq k (place - 1)))
  where
    and_true : (b : Bool) → (b && true) ≡ b
    and_true true = refl
    and_true false = refl

    and_false : (b : Bool) → (b && false) ≡ false
    and_false true = refl
    and_false false = refl

-- one place more that can't be added
pub none_more : (needs : ℕ → ℕ → Bool) (old : ℕ → Bool) (place n : ℕ) → HasNoneFree needs old place n → ¬ IsFree needs old (place - 1)
    → HasNoneFree needs old (place - 1) n
none_more needs old place n none bound k low high = ⊎_elim
    (λ (e : k ≡ place - 1). subst (λ v. ¬ IsFree needs old v) (sym e) bound)
    (λ (ne : k ≡ place - 1 → ⊥). none k (omega (arith, low, ne)) high)
    (cases_eq k (place - 1))

-- a member isn't added
pub member_bound : (needs : ℕ → ℕ → Bool) (old now : ℕ → Bool) (place : ℕ) → 0 < place → IsCut old now place → now (place - 1) ≡ true
    → ¬ IsFree needs old (place - 1)
member_bound needs old now place low cut t free = false≢true (sym free.missing ∙ sym (here old now place low cut) ∙ t)

module _ (rows : List Row) (old now : ℕ → Bool) (place : ℕ) (low : 0 < place) (inside : place - 1 < length rows) (d : Row)
    (back : (i k : ℕ) → bit_in rows i k ≡ true → i < k) (cut : IsCut old now place) where
  -- nor is one that lacks what it needs
  pub lacking_bound : ¬ ((k : ℕ) → has_place (get_or rows (place - 1) d) k ≡ true → now k ≡ true) → ¬ IsFree (bit_in rows) old (place - 1)
  lacking_bound not_within free = not_within (λ k t.
      let is : bit_in rows k (place - 1) ≡ true = bit_read rows k (place - 1) d inside ∙ t in
      let before = back k (place - 1) is in
      cut k ∙ ap (λ b. b && old k) (lt-ltb k place (omega (arith, before))) ∙ free.closed k is)

  -- else it can be added
  pub adds : (n : ℕ) → place ≤ n → HasNoneFree (bit_in rows) old place n → now (place - 1) ≡ false
      → ((k : ℕ) → has_place (get_or rows (place - 1) d) k ≡ true → now k ≡ true) → IsLastFree (bit_in rows) old n (place - 1)
  adds n high none f within = record {
    below = omega (arith, low, high);
    free = record {
      missing = sym (here old now place low cut) ∙ f;
      closed = λ i is. (and_parts (nat_lt i place) (old i)
          (sym (cut i) ∙ within i (sym (bit_read rows i (place - 1) d inside) ∙ is))).1;
    };
    last = λ k from to. none k (omega (arith, from, low)) to;
  }

  pub added : (new : ℕ → Bool) → now (place - 1) ≡ false → ((k : ℕ) → new k ≡ (k == place - 1 || now k)) → (i : ℕ) → new i
      ≡ cut_with old (place - 1) i
  added new f is i = is i ∙ ap (λ b. i == place - 1 || b) (cut_same old now place low cut f i)

-- ---- what comes after a set

pub step_follows : (needs : ℕ → ℕ → Bool) → IsBackward needs → (n : ℕ) → n ≤ 1024 → (old new : Row) → IsSet needs n old → (more : Bool)
    → IsAdded needs n (has_place old) (has_place new) more
    → every_from needs n (places_of old) ≡ places_of old ∷ cond more (every_from needs n (places_of new)) []
step_follows needs back n few old new is true w =
    let k = w.0 in
    let low = w.1.0.below in
    let same : places_of new ≡ chosen (has_place old) k ++ k ∷ [] =
    places_read new n few (λ i high. w.1.1 i ∙ past i (omega (arith, low, high)))
    ∙ chosen_same (has_place new) (cut_with (has_place old) k) n (λ i under. w.1.1 i) ∙ cut_chosen (has_place old) n k low in
    let here = places_read old n few is.within in
    ap (every_from needs n) here ∙ one_follows needs back n (has_place old) is.closed k w.1.0
    ∙ ap (λ v. v ∷ every_from needs n (chosen (has_place old) k ++ k ∷ [])) (sym here)
    ∙ ap (λ v. places_of old ∷ every_from needs n v) (sym same)
  where
    past : (i : ℕ) → w.0 < i → cut_with (has_place old) w.0 i ≡ false
    past i high = ap (λ b. b || (nat_lt i w.0 && has_place old i)) (ne_eqb i w.0 (λ e. omega (arith, high, e)))
        ∙ ap (λ b. b && has_place old i) (le-ltb i w.0 (omega (arith, high)))
step_follows needs back n few old new is false w =
    let here = places_read old n few is.within in
    ap (every_from needs n) here ∙ none_follows needs back n (has_place old) is.closed w.0 ∙ ap (λ v. v ∷ []) (sym here)

pub step_set : (needs : ℕ → ℕ → Bool) → IsBackward needs → (n : ℕ) (old new : Row) → IsSet needs n old → (more : Bool)
    → IsAdded needs n (has_place old) (has_place new) more → IsSet needs n new
step_set needs back n old new is true w =
    let k = w.0 in
    let low = w.1.0.below in
    record {
      within = λ i high. w.1.1 i ∙ ap (λ b. b || (nat_lt i k && has_place old i)) (ne_eqb i k (λ e. omega (arith, low, high, e)))
          ∙ ap (λ b. b && has_place old i) (le-ltb i k (omega (arith, low, high)));
      closed = λ i j under t s.
          let before = back i j s in
          w.1.1 i ∙ ⊎_elim
          (λ (e : (j == k) ≡ true).
          let same = eqb-true j k e in
          or_right (i == k) (nat_lt i k && has_place old i)
          (and_from (nat_lt i k) (has_place old i) (lt-ltb i k (omega (arith, before, same)))
          (w.1.0.free.closed i (ap (needs i) (sym same) ∙ s))))
          (λ (h : (nat_lt j k && has_place old j) ≡ true).
          let parts = and_parts (nat_lt j k) (has_place old j) h in
          let less = ltb-true j k parts.0 in
          or_right (i == k) (nat_lt i k && has_place old i)
          (and_from (nat_lt i k) (has_place old i) (lt-ltb i k (omega (arith, before, less))) (is.closed i j under parts.1 s)))
          (or_cases (j == k) (nat_lt j k && has_place old j) (sym (w.1.1 j) ∙ t));
    }
step_set needs back n old new is false w = record {
  within = λ i high. w.1 i;
  closed = λ i j under t s. absurd (false≢true (sym (w.1 j) ∙ t));
}

pub last_empty : (needs : ℕ → ℕ → Bool) (n : ℕ) (old : ℕ → Bool) (new : Row) (more : Bool) → IsAdded needs n old (has_place new) more → more
    ≡ false
    → places_of new ≡ []
last_empty needs n old new true w e = absurd (false≢true (sym e))
last_empty needs n old new false w e = none_read new w.1
