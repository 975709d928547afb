-- The numbers of the open fids: what is among them, how many there are, and how a table's changes
-- follow.
use Rattle.std.proofs.Common.{◌≡◌, ◌≢◌, ◌∙◌, ℕ, suc, ◌+◌, ◌-◌, ◌<◌, ◌≤◌, ◌&&◌, ◌||◌, ◌==◌, Bool, true, false, cond, not, List, [], ◌∷◌}
use Rattle.std.proofs.Common.{length, get_or, Option, Some, None, is_some, refl, sym, ap, arith, zero-le, true≢false}
use Rattle.std.proofs.lemmas.Bool.{eq-eqb, eqb-true}
use Rattle.std.proofs.lemmas.Bool.Decides.{nat_tests}
use Rattle.std.proofs.lemmas.List.{get_or_default}
use Rattle.std.proofs.lemmas.List.Edits.{get_or-insert_above, get_or-insert_at, get_or-insert_below, get_or-remove_above}
use Rattle.std.proofs.lemmas.List.Edits.{get_or-remove_below, length-insert, length-remove}
use Rattle.std.proofs.lemmas.List.Folds.{Any-from_list_any, list_any-from_Any}
use Rattle.std.proofs.lemmas.List.Sorted.{IsPermutation-insert, IsPermutation-remove, list_any-IsPermutation}
use Rattle.std.specs.Cmp.{nat_cmp_total, unsigned_tied}
use Rattle.std.specs.FinMap as map
use Rattle.std.specs.FinMap.{entries, get, get-entries, get-insert, get-remove, len, len-entries, len-remove}
use Rattle.std.specs.List as list
use Rattle.std.specs.List.{AllWithin}
use Rattle.std.specs.List.Sorted.{IsPartitionedBy}
use Rattle.std.specs.Ordering.{nat_cmp}
use Rattle.std.specs.Prelude.{nat_lt}
use Rattle.cs_fids.specs.Entries.{is_open}
use Rattle.cs_fids.specs.Opens.{IsDescending, is_among, is_open_in}
use Rattle.cs_fids.specs.Tables.{FidMap}
use Rattle.cs_fids.specs.declared.entry.FidEntry.{FidEntry}

-- a number that is at no place isn't among them
stands_nowhere : (n : ℕ) (xs : List ℕ) → ((k d : ℕ) → k < length xs → get_or xs k d ≢ n) → is_among n xs ≡ false
stands_nowhere n xs nowhere = by (is_among n xs) refl
  where
    by : (b : Bool) → is_among n xs ≡ b → b ≡ false
    by false e = refl
    by true e = (let at = Any-from_list_any (λ m. n == m) xs e in absurd (nowhere at.0 at.1 at.2 (at.3 ∙ sym (eqb-true n at.1 at.4))))

-- one that is at some place is
pub stands : (n : ℕ) (xs : List ℕ) (k d : ℕ) → k < length xs → get_or xs k d ≡ n → is_among n xs ≡ true
stands n xs k d within is = list_any-from_Any (λ m. n == m) xs (k, n, within, get_or_default xs k n d within ∙ is, eq-eqb n n refl)

-- among numbers that descend, all others are less than the first
below_first : (x n : ℕ) (xs : List ℕ) → IsDescending (x ∷ xs) → is_among n xs ≡ true → n < x
below_first x n xs descending among =
    let at = Any-from_list_any (λ m. n == m) xs among in
    let less : get_or xs at.0 at.1 < x = descending 0 (suc at.0) at.1 (omega arith) (omega (arith, at.2)) in
    let same : get_or xs at.0 at.1 ≡ at.1 = at.3 in
    let own : n ≡ at.1 = eqb-true n at.1 at.4 in
    omega arith

-- the numbers above one come before the rest
pub parts_at : (y : ℕ) (xs : List ℕ) → IsDescending xs → IsPartitionedBy (λ n. nat_lt y n) xs
parts_at y xs descending i j d le within above =
    let less : i < j → get_or xs j d < get_or xs i d = λ before. descending i j d before within in
    grind (arith, nat_tests, less, λ (same : i ≡ j). ap (λ k. get_or xs k d) same)

module _ (xs : List ℕ) (descending : IsDescending xs) (y at : ℕ) (greater : AllWithin (λ x. y < x) xs 0 at)
    (rest : AllWithin (λ x. x ≤ y) xs at (length xs)) where
  -- a number that is among them is at that place
  pub stands_there : is_among y xs ≡ true → (at < length xs) × (get_or xs at y ≡ y)
  stands_there among =
      let found = Any-from_list_any (λ m. y == m) xs among in
      let inside : found.0 < length xs = found.2 in
      let own : get_or xs found.0 y ≡ y = get_or_default xs found.0 y found.1 inside ∙ found.3 ∙ sym (eqb-true y found.1 found.4) in
      let same : found.0 ≡ at = grind (arith, greater found.0 y, rest at y, descending at found.0 y) in
      (omega arith, ap (λ k. get_or xs k y) (sym same) ∙ own)

  -- with a new number at its place they still descend
  pub descending_put : at ≤ length xs → is_among y xs ≡ false → IsDescending (list.insert xs at y)
  descending_put within new i j d less inside =
      let all : length (list.insert xs at y) ≡ length xs + 1 = length-insert xs at y within in
      grind (
        arith,
        nat_tests,
        value i d,
        value j d,
        less_after (j - 1) d,
        greater i d,
        descending i j d,
        descending i (j - 1) d,
        descending
            (i - 1) (j - 1) d,
      )
    where
      less_after : (k d : ℕ) → at ≤ k → k < length xs → get_or xs k d < y
      less_after k d le inside =
          let most : get_or xs k d ≤ y = rest k d le inside in
          let other : get_or xs k d ≢ y = λ same. true≢false (sym (stands y xs k d inside same) ∙ new) in
          omega arith

      value : (k d : ℕ) → k < length xs + 1 → (k < at → get_or (list.insert xs at y) k d ≡ get_or xs k d)
          × (k ≡ at → get_or (list.insert xs at y) k d ≡ y) × (at < k → get_or (list.insert xs at y) k d ≡ get_or xs (k - 1) d)
      value k d inside = (
        λ below. get_or-insert_below xs at y d k below within,
        λ here. ap (λ j. get_or (list.insert xs at y) j d) here ∙ get_or-insert_at xs at y d within,
        λ above. (let same : k - 1 + 1 ≡ k = omega arith in
            ap (λ j. get_or (list.insert xs at y) j d) (sym same) ∙ get_or-insert_above xs at y d (k - 1) (omega arith) within),
      )

module _ (xs : List ℕ) (descending : IsDescending xs) (y at : ℕ) (within : at < length xs) (there : y ≡ get_or xs at y) where
  gone : is_among y (list.remove xs at) ≡ false
  gone = stands_nowhere y (list.remove xs at) (λ k d inside same.
      let all : length (list.remove xs at) + 1 ≡ length xs = length-remove xs at within in
      let own : get_or xs at d ≡ y = get_or_default xs at d y within ∙ sym there in
      grind (arith, get_or-remove_below xs at d k, get_or-remove_above xs at d k, descending k at d, descending at (k + 1) d))

  -- what is among them without the number at a place
  pub among_taken : (n : ℕ) → is_among n (list.remove xs at) ≡ (not (n == y) && is_among n xs)
  among_taken n =
      by (n == y) refl (list_any-IsPermutation (λ m. n == m) xs (y ∷ list.remove xs at) (IsPermutation-remove xs at y within there))
    where
      by : (b : Bool) → (n == y) ≡ b → is_among n xs ≡ (b || is_among n (list.remove xs at))
          → is_among n (list.remove xs at) ≡ (not b && is_among n xs)
      by true same all = ap (λ m. is_among m (list.remove xs at)) (eqb-true n y same) ∙ gone
      by false same all = sym all

-- what is among them with one more
pub among_put : (n y at : ℕ) (xs : List ℕ) → is_among n (list.insert xs at y) ≡ (n == y || is_among n xs)
among_put n y at xs = sym (list_any-IsPermutation (λ m. n == m) (y ∷ xs) (list.insert xs at y) (IsPermutation-insert xs at y))

not_empty : (x : ℕ) (m : FidMap) → is_some (get m x) ≡ true → 0 < len m
not_empty x m there = by (entries m) (get-entries m x) (len-entries m)
  where
    by : (es : List (ℕ × FidEntry)) → get m x ≡ map.find nat_cmp x es → len m ≡ length es → 0 < len m
    by [] found long = absurd (true≢false (sym there ∙ ap is_some found))
    by (e ∷ es) found long = omega arith

pub open_is_some : (o : Option FidEntry) → is_open_in o ≡ true → is_some o ≡ true
open_is_some None is = is
open_is_some (Some entry) is = refl

-- numbers that descend and are keys of a map are no more than its entries
pub no_more : (xs : List ℕ) (m : FidMap) → IsDescending xs → ((n : ℕ) → is_among n xs ≡ true → is_some (get m n) ≡ true) → length xs ≤ len m
no_more [] m descending all = zero-le
no_more (x ∷ xs) m descending all =
    let there : is_some (get m x) ≡ true = all x (ap (λ b. b || is_among x xs) (eq-eqb x x refl)) in
    let some : 0 < len m = not_empty x m there in
    let left : len (map.remove m x) ≡ len m - 1 = len-remove nat_cmp_total m x ∙ ap (λ b. cond b (len m - 1) (len m)) there in
    let rest : length xs ≤ len (map.remove m x) =
    no_more xs (map.remove m x) (λ i j d less within. descending (suc i) (suc j) d (omega arith) (omega arith)) (λ n among.
    let less : n < x = below_first x n xs descending among in
    let other : (n == x) ≡ false = grind (arith, nat_tests) in
    ap is_some (get-remove nat_cmp_total m x n ∙ ap (λ b. cond b None (get m n)) (unsigned_tied n x ∙ other)) ∙ all n
    (ap (λ b. b || is_among n xs) other ∙ among)) in
    omega arith

module _ (fids : FidMap) (opens : List ℕ) (fid : ℕ) (among : (n : ℕ) → is_among n opens ≡ is_open_in (get fids n)) where
  -- one fid more is open
  pub opened_too : (entry : FidEntry) (new : List ℕ) → is_open entry ≡ true → ((n : ℕ) → is_among n new ≡ (n == fid || is_among n opens))
      → (n : ℕ) → is_among n new ≡ is_open_in (get (map.insert fids fid entry) n)
  opened_too entry new opened put n =
      put n ∙ by (n == fid) (among n) ∙ ap is_open_in
      (sym (get-insert nat_cmp_total fids fid entry n ∙ ap (λ b. cond b (Some entry) (get fids n)) (unsigned_tied n fid)))
    where
      by : (b : Bool) → is_among n opens ≡ is_open_in (get fids n) → (b || is_among n opens) ≡ is_open_in (cond b (Some entry) (get fids n))
      by true same = sym opened
      by false same = same

  -- a fid is put that is open exactly if the old one was
  pub as_open : (entry : FidEntry) → is_open entry ≡ is_open_in (get fids fid) → (n : ℕ)
      → is_among n opens ≡ is_open_in (get (map.insert fids fid entry) n)
  as_open entry same n =
      by (n == fid) refl ∙ ap is_open_in
      (sym (get-insert nat_cmp_total fids fid entry n ∙ ap (λ b. cond b (Some entry) (get fids n)) (unsigned_tied n fid)))
    where
      by : (b : Bool) → (n == fid) ≡ b → is_among n opens ≡ is_open_in (cond b (Some entry) (get fids n))
      by true is = ap (λ m. is_among m opens) (eqb-true n fid is) ∙ among fid ∙ sym same
      by false is = among n

  -- an open fid is taken out
  pub open_no_more : (new : List ℕ) → ((n : ℕ) → is_among n new ≡ (not (n == fid) && is_among n opens)) → (n : ℕ)
      → is_among n new ≡ is_open_in (get (map.remove fids fid) n)
  open_no_more new taken n =
      taken n ∙ by (n == fid) ∙ ap is_open_in
      (sym (get-remove nat_cmp_total fids fid n ∙ ap (λ b. cond b None (get fids n)) (unsigned_tied n fid)))
    where
      by : (b : Bool) → (not b && is_among n opens) ≡ is_open_in (cond b None (get fids n))
      by true = refl
      by false = among n

  -- a fid is taken out that isn't open
  pub still_open : is_open_in (get fids fid) ≡ false → (n : ℕ) → is_among n opens ≡ is_open_in (get (map.remove fids fid) n)
  still_open walked n =
      by (n == fid) refl ∙ ap is_open_in
      (sym (get-remove nat_cmp_total fids fid n ∙ ap (λ b. cond b None (get fids n)) (unsigned_tied n fid)))
    where
      by : (b : Bool) → (n == fid) ≡ b → is_among n opens ≡ is_open_in (cond b None (get fids n))
      by true is = ap (λ m. is_among m opens) (eqb-true n fid is) ∙ among fid ∙ walked
      by false is = among n

  -- a table has more fids than open ones if one isn't open
  pub one_more : IsDescending opens → is_some (get fids fid) ≡ true → is_open_in (get fids fid) ≡ false → length opens < len fids
  one_more descending there walked =
      let some : 0 < len fids = not_empty fid fids there in
      let left : len (map.remove fids fid) ≡ len fids - 1 =
      len-remove nat_cmp_total fids fid ∙ ap (λ b. cond b (len fids - 1) (len fids)) there in
      let all : length opens ≤ len (map.remove fids fid) =
      no_more opens (map.remove fids fid) descending
      (λ n own. open_is_some (get (map.remove fids fid) n) (sym (still_open walked n) ∙ own)) in
      omega arith
