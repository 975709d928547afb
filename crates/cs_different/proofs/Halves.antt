-- Sets that have both halves of each rename.
use Rattle.std.proofs.Common.{◌≡◌, ℕ, zero, suc, ◌+◌, ◌<◌, ◌≤◌, ◌||◌, not, Bool, true, false, cond, List, [], ◌∷◌, ◌++◌, refl, sym, ap, ◌∙◌}
use Rattle.std.proofs.Common.{arith, ⊎_elim, get_or, length, subst}
use Rattle.std.proofs.lemmas.Bool.{cases_Bool, cases_eq, false≢true}
use Rattle.std.proofs.lemmas.List.Elements.{All-contains, filter-append, filter_passes}
use Rattle.std.proofs.lemmas.List.Sums.{AllPass-from_list_all, list_all-from_AllPass}
use Rattle.std.specs.List.{Contains, filter, list_all, range_with_len}
use Rattle.cs_trace_lines.specs.declared.profile.Profile.{Profile}
use Rattle.cs_trace_lines.specs.declared.profile.Profile.TheVariants.{Blocks, Ordered, Journal}
use Rattle.cs_micro.specs.declared.micro_op.MicroOp.{MicroOp}
use Rattle.cs_apm.specs.Profiles.{HasBothHalves, MayHaveHalves}
use Rattle.cs_apm.specs.Rules.{is_first_half, op_at}
use Rattle.cs_sets.specs.declared.row.Row.{Row}
use Rattle.cs_sets.specs.Bits.{has_place}
use Rattle.cs_sets.specs.Places.{places_of}
use Rattle.cs_sets.specs.Sets.{is_member}
use Rattle.cs_sets.specs.Laws.Following.{chosen_has, chosen_past}
use Rattle.cs_sets.specs.Laws.Lists.{range_more}
use Rattle.cs_sets.specs.Laws.Members.{contains_has, has_contains}
use Rattle.cs_different.specs.Members.{firsts_under, has_seconds}
use Rattle.cs_different.proofs.Firsts.{in_cons, in_here, in_later}

-- ---- lists

pub in_filter : {X : Type 0} (p : X → Bool) (xs : List X) (x : X) → Contains xs x → p x ≡ true → Contains (filter p xs) x
in_filter p [] x (k, low, e) h = absurd (omega (arith, low))
in_filter p (y ∷ ys) x c h = ⊎_elim
    (λ (e : y ≡ x). subst (λ b. Contains (cond b (y ∷ filter p ys) (filter p ys)) x) (sym (ap p e ∙ h))
    (subst (Contains (y ∷ filter p ys)) e (in_here y (filter p ys))))
    (λ (later : Contains ys x). by (p y) (in_filter p ys x later h))
    (in_cons y x ys c)
  where
    by : (b : Bool) → Contains (filter p ys) x → Contains (cond b (y ∷ filter p ys) (filter p ys)) x
    by true there = in_later y x (filter p ys) there
    by false there = there

in_range : (a n i : ℕ) → a ≤ i → i < a + n → Contains (range_with_len a n) i
in_range a zero i from to = absurd (omega (arith, from, to))
in_range a (suc n) i from to = ⊎_elim
    (λ (e : a ≡ i). subst (Contains (range_with_len a (suc n))) e (in_here a (range_with_len (a + 1) n)))
    (λ (other : a ≡ i → ⊥). in_later a i (range_with_len (a + 1) n)
    (in_range (a + 1) n i (omega (arith, from, other)) (omega (arith, to))))
    (cases_eq a i)

pub range_filter : (p : ℕ → Bool) (n : ℕ)
    → filter p (range_with_len 0 n) ++ cond (p n) (n ∷ []) [] ≡ filter p (range_with_len 0 (n + 1))
range_filter p n = sym (filter-append p (range_with_len 0 n) (n ∷ [])) ∙ ap (filter p) (sym (range_more n))

-- ---- places of a row

pub has_below : (row : Row) (i : ℕ) → i < 1024 → has_place row i ≡ is_member (places_of row) i
unfolding places_of
has_below row i low = sym (chosen_has (has_place row) 1024 i low)

pub has_past : (row : Row) (i : ℕ) → 1024 ≤ i → false ≡ is_member (places_of row) i
unfolding places_of
has_past row i high = sym (chosen_past (has_place row) 1024 i high)

-- ---- halves

module _ (ops : List MicroOp) (places : List ℕ) where
  abbrev first : ℕ → Bool
  first i = is_first_half (op_at ops i)

  abbrev test : ℕ → Bool
  test i = not (is_member places i) || is_member places (i + 1)

  abbrev firsts : List ℕ
  firsts = filter first (range_with_len 0 (length ops))

  says_both : list_all test firsts ≡ true → ((i : ℕ) → Contains places i → i < length ops) → HasBothHalves ops places
  says_both t inside i there half =
      let low : i < length ops = inside i there in
      let listed = in_filter first (range_with_len 0 (length ops)) i (in_range 0 (length ops) i (omega arith) (omega (arith, low))) half in
      let passes : test i ≡ true = All-contains (λ k. test k ≡ true) firsts i (AllPass-from_list_all test firsts t) listed in
      has_contains places (i + 1) (second (is_member places i) (is_member places (i + 1)) (contains_has places i there) passes)
    where
      second : (a b : Bool) → a ≡ true → (not a || b) ≡ true → b ≡ true
      second true b e h = h
      second false b e h = absurd (false≢true e)

  both_says : HasBothHalves ops places → list_all test firsts ≡ true
  both_says both = list_all-from_AllPass test firsts (λ k d low.
      passes (get_or firsts k d) (filter_passes first (range_with_len 0 (length ops)) k d low))
    where
      passes : (i : ℕ) → first i ≡ true → test i ≡ true
      passes i half = ⊎_elim
          (λ (t : is_member places i ≡ true). ap (λ b. not b || is_member places (i + 1)) t
          ∙ contains_has places (i + 1) (both i (has_contains places i t) half))
          (λ (f : is_member places i ≡ false). ap (λ b. not b || is_member places (i + 1)) f)
          (cases_Bool (is_member places i))

  -- the test is what a file system of the profile may leave
  pub halves_say : (profile : Profile) → ((i : ℕ) → Contains places i → i < length ops)
      → (has_seconds (firsts_under ops profile) places ≡ true → MayHaveHalves profile ops places)
      × (MayHaveHalves profile ops places → has_seconds (firsts_under ops profile) places ≡ true)
  halves_say Blocks inside = (λ t. tt, λ h. refl)
  halves_say Ordered inside = (λ t. says_both t inside, both_says)
  halves_say Journal inside = (λ t. says_both t inside, both_says)
