-- The lists of recipes, one more at a time.
use Rattle.std.proofs.Common.{◌≡◌, ℕ, ◌+◌, Bool, true, false, cond, List, [], ◌∷◌, ◌++◌, length, map, sym, ap, ◌∙◌, arith, append_assoc}
use Rattle.std.proofs.Common.{length-append}
use Rattle.std.proofs.lemmas.List.{length-map, map_push, flat_map_more, append-nil}
use Rattle.std.proofs.lemmas.List.Elements.{filter-append}
use Rattle.std.proofs.lemmas.List.FromFn.{length-map-range_with_len}
use Rattle.std.specs.List.{range_with_len, filter, flat_map}
use Rattle.cs_sets.specs.Laws.Lists.{range_more}
use Rattle.cs_plan.specs.declared.recipe.Recipe.{Recipe}
use Rattle.cs_plan.specs.declared.recipe.Recipe.TheVariants.{Prefix, Hole, Pick}
use Rattle.cs_plan.specs.Plans.{families, holes_at, holes_of, is_kept, prefixes, recipes_of}

pub kept_more : (p : ℕ → Bool) (n : ℕ) → p n ≡ true → filter p (range_with_len 0 (n + 1)) ≡ filter p (range_with_len 0 n) ++ n ∷ []
kept_more p n is =
    ap (filter p) (range_more n) ∙ filter-append p (range_with_len 0 n) (n ∷ []) ∙ ap
    (λ b. filter p (range_with_len 0 n) ++ cond b (n ∷ []) []) is

pub kept_same : (p : ℕ → Bool) (n : ℕ) → p n ≡ false → filter p (range_with_len 0 (n + 1)) ≡ filter p (range_with_len 0 n)
kept_same p n is =
    ap (filter p) (range_more n) ∙ filter-append p (range_with_len 0 n) (n ∷ []) ∙ ap
    (λ b. filter p (range_with_len 0 n) ++ cond b (n ∷ []) []) is ∙ append-nil _

-- the holes with this last place that miss one of the first places
abbrev pub holes_below : (ℕ → ℕ → Bool) → ℕ → ℕ → List Recipe
holes_below needs k w = map (λ i. Hole i (k + 1)) (filter (λ i. is_kept needs i k) (range_with_len 0 w))

pub below_more : (needs : ℕ → ℕ → Bool) (k w : ℕ) → is_kept needs w k ≡ true
    → holes_below needs k (w + 1) ≡ holes_below needs k w ++ Hole w (k + 1) ∷ []
below_more needs k w is =
    ap (map (λ i. Hole i (k + 1))) (kept_more (λ i. is_kept needs i k) w is) ∙ map_push (λ i. Hole i (k + 1))
    (filter (λ i. is_kept needs i k) (range_with_len 0 w)) w

pub below_same : (needs : ℕ → ℕ → Bool) (k w : ℕ) → is_kept needs w k ≡ false → holes_below needs k (w + 1) ≡ holes_below needs k w
below_same needs k w is = ap (map (λ i. Hole i (k + 1))) (kept_same (λ i. is_kept needs i k) w is)

pub holes_more : (needs : ℕ → ℕ → Bool) (k : ℕ) → holes_of needs (k + 1) ≡ holes_of needs k ++ holes_at needs k
unfolding holes_of
holes_more needs k = ap (flat_map (holes_at needs)) (range_more k) ∙ sym (flat_map_more (holes_at needs) [] (range_with_len 0 k) k)

pub prefixes_more : (k : ℕ) → map Prefix (range_with_len 0 (k + 1)) ≡ map Prefix (range_with_len 0 k) ++ Prefix k ∷ []
prefixes_more k = ap (map Prefix) (range_more k) ∙ map_push Prefix (range_with_len 0 k) k

-- a push after what was there
pub push_after : {X : Type 0} (now before old more last : List X) → now ≡ before ++ last → before ≡ old ++ more
    → now ≡ old ++ (more ++ last)
push_after now before old more last e f = e ∙ ap (λ v. v ++ last) f ∙ append_assoc old more last

pub length_prefixes : (n : ℕ) → length (prefixes n) ≡ n + 1
unfolding prefixes
length_prefixes n = length-map-range_with_len Prefix 0 (n + 1)

pub length_families : (needs : ℕ → ℕ → Bool) (n : ℕ) (holes : Bool) → holes ≡ true
    → length (families needs n holes) ≡ n + 1 + length (holes_of needs n)
length_families needs n holes is =
    ap (λ b. length (families needs n b)) is ∙ length-append (prefixes n) (holes_of needs n) ∙ ap (λ m. m + length (holes_of needs n))
    (length_prefixes n)

pub length_prefixes_only : (needs : ℕ → ℕ → Bool) (n : ℕ) (holes : Bool) → holes ≡ false → length (families needs n holes) ≡ n + 1
length_prefixes_only needs n holes is =
    ap (λ b. length (families needs n b)) is ∙ length-append (prefixes n) [] ∙ omega (arith, length_prefixes n)

pub length_recipes : (needs : ℕ → ℕ → Bool) (n : ℕ) (holes : Bool) (picks : List (List ℕ))
    → length (recipes_of needs n holes picks) ≡ length (families needs n holes) + length picks
length_recipes needs n holes picks =
    length-append (families needs n holes) (map Pick picks) ∙ ap (λ m. length (families needs n holes) + m) (length-map picks Pick)
