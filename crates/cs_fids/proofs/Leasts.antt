-- The least open fid of a table, and the last of its open fids.
use Rattle.std.proofs.Common.{◌≡◌, ◌∙◌, ℕ, ◌-◌, ◌<◌, ◌≤◌, ◌&&◌, ◌==◌, rules, Bool, true, false, cond, T, if◌then◌else◌, List, [], ◌∷◌}
use Rattle.std.proofs.Common.{length, get_or, slice_get, Option, None, Some, IfSome, IsOk, refl, sym, ap, subst, arith, true≢false}
use Rattle.std.proofs.lemmas.Bool.{eq-eqb, eqb-true}
use Rattle.std.proofs.lemmas.List.{get_or_default}
use Rattle.std.proofs.lemmas.List.Folds.{Any-from_list_any}
use Rattle.std.proofs.lemmas.Option.{slice_get-get_or}
use Rattle.std.specs.Cmp.{unsigned_tied}
use Rattle.std.specs.FinMap.{entries, entries_sorted, find, get, get-entries, is_sorted}
use Rattle.std.specs.FinMap.Entries.{below_all}
use Rattle.std.specs.List as list
use Rattle.std.specs.Option.{option_map}
use Rattle.std.specs.Ordering.{nat_cmp, is_lt}
use Rattle.std.specs.declared.cmp.Ordering.{Ordering}
use Rattle.std.specs.declared.cmp.Ordering.TheVariants.{Less, Equal, Greater}
use Rattle.cs_fids.specs.Entries.{is_open}
use Rattle.cs_fids.specs.Opens.{IsDescending, is_among, is_open_in}
use Rattle.cs_fids.specs.Tables.{FidMap, fid_of, first_open, least_open, opened_in}
use Rattle.cs_fids.specs.declared.entry.FidEntry.{FidEntry}
use Rattle.cs_fids.specs.declared.entry.FidEntry.TheVariants as entry
use Rattle.cs_fids.proofs.Numbers.{stands}

-- the least number that passes a test, or none if none does
abbrev IsLeast : (ℕ → Bool) → Option ℕ → Type 0
IsLeast test None = (n : ℕ) → test n ≡ false
IsLeast test (Some m) = (test m ≡ true) × ((n : ℕ) → test n ≡ true → m ≤ n)

alike : (p q : ℕ → Bool) → ((n : ℕ) → p n ≡ q n) → (o : Option ℕ) → IsLeast q o → IsLeast p o
alike p q same None none = λ n. same n ∙ none n
alike p q same (Some m) least = (same m ∙ least.0, λ n passes. least.1 n (sym (same n) ∙ passes))

one_least : (test : ℕ → Bool) (a b : Option ℕ) → IsLeast test a → IsLeast test b → a ≡ b
one_least test None None none nothing = refl
one_least test None (Some m) none least = absurd (true≢false (sym least.0 ∙ none m))
one_least test (Some m) None least none = absurd (true≢false (sym least.0 ∙ none m))
one_least test (Some m) (Some n) least other =
    let up : m ≤ n = least.1 n other.0 in
    let down : n ≤ m = other.1 m least.0 in
    ap Some (omega arith)

last_is_least : (xs : List ℕ) → IsDescending xs → IsLeast (λ n. is_among n xs) (slice_get xs (length xs - 1))
last_is_least [] descending = λ n. refl
last_is_least (x ∷ xs) descending =
    let last : ℕ = length (x ∷ xs) - 1 in
    let within : last < length (x ∷ xs) = omega arith in
    let m : ℕ = get_or (x ∷ xs) last x in
    subst (IsLeast (λ n. is_among n (x ∷ xs))) (sym (slice_get-get_or (x ∷ xs) last x within)) (
      stands m (x ∷ xs) last x within refl,
      λ n among.
          let at = Any-from_list_any (λ m. n == m) (x ∷ xs) among in
          let own : n ≡ get_or (x ∷ xs) at.0 x = eqb-true n at.1 at.4 ∙ sym at.3 ∙ get_or_default (x ∷ xs) at.0 at.1 x at.2 in
          let inside : at.0 < length (x ∷ xs) = at.2 in
          let before : at.0 < last → m < get_or (x ∷ xs) at.0 x = λ earlier. descending at.0 last x earlier within in
          let here : at.0 ≡ last → m ≡ get_or (x ∷ xs) at.0 x = λ same. ap (λ k. get_or (x ∷ xs) k x) (sym same) in
          grind arith,
    )

both_first : (a b : Bool) → T (a && b) → T a
both_first true b t = tt
both_first false b t = absurd t

both_second : (a b : Bool) → T (a && b) → T b
both_second true b t = t
both_second false b t = absurd t

less : (k n : ℕ) → nat_cmp k n ≡ Less → k < n
less k n e = search rules

is_less : (o : Ordering) → T (is_lt o) → o ≡ Less
is_less Less t = refl
is_less Equal t = absurd t
is_less Greater t = absurd t

-- an entry that is found among those above a number has a greater one
found_above : (k n : ℕ) (es : List (ℕ × FidEntry)) → T (below_all nat_cmp k es) → is_open_in (find nat_cmp n es) ≡ true → k < n
found_above k n [] above found = absurd (true≢false (sym found))
found_above k n (e ∷ es) above found =
    by (n == e.0) refl (found_above k n es (both_second _ _ above))
    (ap (λ b. is_open_in (cond b (Some e.1) (find nat_cmp n es))) (sym (unsigned_tied n e.0)) ∙ found)
  where
    by : (b : Bool) → (n == e.0) ≡ b → (is_open_in (find nat_cmp n es) ≡ true → k < n)
        → is_open_in (cond b (Some e.1) (find nat_cmp n es)) ≡ true → k < n
    by true same further is =
        subst (λ m. k < m) (sym (eqb-true n e.0 same))
        (less k e.0 (is_less (nat_cmp k e.0) (both_first (is_lt (nat_cmp k e.0)) (below_all nat_cmp k es) above)))
    by false same further is = further is

first_is_least : (es : List (ℕ × FidEntry)) → T (is_sorted nat_cmp es) → IsLeast (λ n. is_open_in (find nat_cmp n es)) (first_open es)
first_is_least [] sorted = λ n. refl
first_is_least (e ∷ es) sorted = by (is_open e.1) refl (first_is_least es (both_second _ _ sorted))
  where
    above : (n : ℕ) → is_open_in (find nat_cmp n es) ≡ true → e.0 < n
    above n = found_above e.0 n es (both_first _ _ sorted)

    own : (n : ℕ) → (n == e.0) ≡ true → is_open_in (find nat_cmp n (e ∷ es)) ≡ is_open e.1
    own n same = ap (λ b. is_open_in (cond b (Some e.1) (find nat_cmp n es))) (unsigned_tied n e.0 ∙ same)

    other : (n : ℕ) → (n == e.0) ≡ false → is_open_in (find nat_cmp n (e ∷ es)) ≡ is_open_in (find nat_cmp n es)
    other n differs = ap (λ b. is_open_in (cond b (Some e.1) (find nat_cmp n es))) (unsigned_tied n e.0 ∙ differs)

    from_first : is_open e.1 ≡ true → (n : ℕ) (b : Bool) → (n == e.0) ≡ b → is_open_in (find nat_cmp n (e ∷ es)) ≡ true → e.0 ≤ n
    from_first is n true same there = (let equal : n ≡ e.0 = eqb-true n e.0 same in omega arith)
    from_first is n false differs there = (let less : e.0 < n = above n (sym (other n differs) ∙ there) in omega arith)

    not_here : (b : Bool) (n : ℕ) → n ≡ e.0 → is_open_in (find nat_cmp n es) ≡ b → false ≡ b
    not_here false n same found = refl
    not_here true n same found = (let less : e.0 < n = above n found in absurd (omega arith))

    passed : is_open e.1 ≡ false → (n : ℕ) (b : Bool) → (n == e.0) ≡ b
        → is_open_in (find nat_cmp n (e ∷ es)) ≡ is_open_in (find nat_cmp n es)
    passed is n true same = own n same ∙ is ∙ not_here (is_open_in (find nat_cmp n es)) n (eqb-true n e.0 same) refl
    passed is n false differs = other n differs

    by : (b : Bool) → is_open e.1 ≡ b → IsLeast (λ n. is_open_in (find nat_cmp n es)) (first_open es)
        → IsLeast (λ n. is_open_in (find nat_cmp n (e ∷ es))) (option_map fid_of (if b then Some e else list.find (λ x. is_open x.1) es))
    by true is rest = (own e.0 (eq-eqb e.0 e.0 refl) ∙ is, λ n there. from_first is n (n == e.0) refl there)
    by false is rest =
        alike (λ n. is_open_in (find nat_cmp n (e ∷ es))) (λ n. is_open_in (find nat_cmp n es)) (λ n. passed is n (n == e.0) refl)
        (first_open es) rest

opens : (o : Option FidEntry) → is_open_in o ≡ true → IsOk (opened_in o)
opens None is = absurd (true≢false (sym is))
opens (Some (entry.Walked f)) is = absurd (true≢false (sym is))
opens (Some (entry.Opened f)) is = refl

module _ (fids : FidMap) (numbers : List ℕ) (descending : IsDescending numbers)
    (among : (n : ℕ) → is_among n numbers ≡ is_open_in (get fids n)) where
  -- the last of the numbers is the least open fid
  pub is_least : slice_get numbers (length numbers - 1) ≡ least_open fids
  is_least =
      let first =
      alike (λ n. is_among n numbers) (λ n. is_open_in (find nat_cmp n (entries fids)))
      (λ n. among n ∙ ap is_open_in (get-entries fids n)) (least_open fids) (first_is_least (entries fids) (entries_sorted fids)) in
      one_least (λ n. is_among n numbers) _ (least_open fids) (last_is_least numbers descending) first

  -- and open there
  pub is_open_there : IfSome (slice_get numbers (length numbers - 1)) (λ fid. IsOk (opened_in (get fids fid)))
  is_open_there = by (slice_get numbers (length numbers - 1)) (last_is_least numbers descending)
    where
      by : (o : Option ℕ) → IsLeast (λ n. is_among n numbers) o → IfSome o (λ fid. IsOk (opened_in (get fids fid)))
      by None none = tt
      by (Some m) least = opens (get fids m) (sym (among m) ∙ least.0)
