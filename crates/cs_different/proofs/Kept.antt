-- What is kept of a list of sets.
use Rattle.std.proofs.Common.{◌≡◌, ℕ, ◌+◌, ◌<◌, ◌≤◌, ◌||◌, not, Bool, true, false, cond, List, [], ◌∷◌, ◌++◌, refl, sym, ap, ◌∙◌, arith, ⊎_elim}
use Rattle.std.proofs.Common.{fold, get_or, length, length-append, map, subst, take, drop}
use Rattle.std.proofs.lemmas.Bool.{cases_Bool}
use Rattle.std.proofs.lemmas.List.{length-map, map_more, take-append-drop}
use Rattle.std.proofs.lemmas.List.Sums.{fold-append, fold_push}
use Rattle.std.specs.List.{list_any}
use Rattle.cs_plan.specs.Scenes.{Scene}
use Rattle.cs_sets.specs.declared.row.Row.{Row}
use Rattle.cs_sets.specs.Different.{add_first, firsts}
use Rattle.cs_sets.specs.Places.{places_of}
use Rattle.cs_different.specs.Sets.{leave_same, sets_of}
use Rattle.cs_different.specs.declared.finding.Found.{Found}

any_mapped : {X Y : Type 0} (p : Y → Bool) (f : X → Y) (xs : List X) → list_any p (map f xs) ≡ list_any (λ x. p (f x)) xs
any_mapped p f [] = refl
any_mapped p f (x ∷ xs) = ap (λ b. p (f x) || b) (any_mapped p f xs)

pub map_push : {X Y : Type 0} (f : X → Y) (xs : List X) (x : X) → map f (xs ++ x ∷ []) ≡ map f xs ++ f x ∷ []
map_push f [] x = refl
map_push f (y ∷ xs) x = ap (λ v. f y ∷ v) (map_push f xs x)

module _ (s : Scene) (kept slice : List Found) where
  pub kept_met : (places : List ℕ) (met : Bool) → slice ≡ kept
      → met ≡ list_any (λ f. leave_same s (places_of f.set) places) slice → met ≡ true
      → sets_of kept ≡ add_first (leave_same s) (sets_of kept) places
  kept_met places met same is t =
      sym (ap (λ b. cond b (sets_of kept) (sets_of kept ++ places ∷ []))
      (any_mapped (λ y. leave_same s y places) (λ (f : Found). places_of f.set) kept
      ∙ ap (list_any (λ (f : Found). leave_same s (places_of f.set) places)) (sym same) ∙ sym is ∙ t))

  pub kept_new : (found : Found) (new : List Found) (met : Bool) → slice ≡ kept
      → met ≡ list_any (λ f. leave_same s (places_of f.set) (places_of found.set)) slice → met ≡ false → new ≡ kept ++ found ∷ []
      → sets_of new ≡ add_first (leave_same s) (sets_of kept) (places_of found.set)
  kept_new found new met same is f push =
      ap sets_of push ∙ map_push (λ (f : Found). places_of f.set) kept found
      ∙ sym (ap (λ b. cond b (sets_of kept) (sets_of kept ++ places_of found.set ∷ []))
      (any_mapped (λ y. leave_same s y (places_of found.set)) (λ (f : Found). places_of f.set) kept
      ∙ ap (list_any (λ (f : Found). leave_same s (places_of f.set) (places_of found.set))) (sym same) ∙ sym is ∙ f))

  pub kept_told : (places : List ℕ) (met new : Bool) → slice ≡ kept
      → met ≡ list_any (λ f. leave_same s (places_of f.set) places) slice → new ≡ not met
      → new ≡ not (list_any (λ y. leave_same s y places) (sets_of kept))
  kept_told places met new same is told =
      told ∙ ap not (is ∙ ap (list_any (λ (f : Found). leave_same s (places_of f.set) places)) same
      ∙ sym (any_mapped (λ y. leave_same s y places) (λ (f : Found). places_of f.set) kept))

-- ---- one set after the other

pub firsts_next : (like : List ℕ → List ℕ → Bool) (rows : List Row) (i : ℕ) (d : Row) → i < length rows
    → firsts like (map places_of (take (i + 1) rows)) ≡ add_first like (firsts like (map places_of (take i rows))) (places_of (get_or rows
    i d))
firsts_next like rows i d low =
    ap (firsts like) (map_more places_of rows i d low)
    ∙ fold_push (add_first like) [] (map places_of (take i rows)) (places_of (get_or rows i d))

grows : (like : List ℕ → List ℕ → Bool) (xs kept : List (List ℕ)) → length kept ≤ length (fold (add_first like) kept xs)
grows like [] kept = omega arith
grows like (x ∷ xs) kept = ⊎_elim
    (λ (m : list_any (λ y. like y x) kept ≡ true).
    subst (λ b. length kept ≤ length (fold (add_first like) (cond b kept (kept ++ x ∷ [])) xs)) (sym m) (grows like xs kept))
    (λ (f : list_any (λ y. like y x) kept ≡ false).
    subst (λ b. length kept ≤ length (fold (add_first like) (cond b kept (kept ++ x ∷ [])) xs)) (sym f)
    (let more = grows like xs (kept ++ x ∷ []) in let long = length-append kept (x ∷ []) in omega (arith, more, long)))
    (cases_Bool (list_any (λ y. like y x) kept))

parted : (rows : List Row) (k : ℕ) → map places_of rows ≡ map places_of (take k rows) ++ map places_of (drop k rows)
parted rows k = ap (map places_of) (sym (take-append-drop k rows)) ∙ map_append (take k rows) (drop k rows)
  where
    map_append : (xs ys : List Row) → map places_of (xs ++ ys) ≡ map places_of xs ++ map places_of ys
    map_append [] ys = refl
    map_append (x ∷ xs) ys = ap (λ v. places_of x ∷ v) (map_append xs ys)

-- those of the first sets are among those of all
pub fewer_before : (like : List ℕ → List ℕ → Bool) (rows : List Row) (k : ℕ)
    → length (firsts like (map places_of (take k rows))) ≤ length (firsts like (map places_of rows))
fewer_before like rows k =
    let e = ap (λ v. length (firsts like v)) (parted rows k) in
    let f = ap length (fold-append (add_first like) [] (map places_of (take k rows)) (map places_of (drop k rows))) in
    let g = grows like (map places_of (drop k rows)) (firsts like (map places_of (take k rows))) in
    omega (arith, e, f, g)

pub more_found : (like : List ℕ → List ℕ → Bool) (rows kept : List Row) (k most : ℕ)
    → map places_of kept ≡ firsts like (map places_of (take k rows)) → most < length kept → most < length (firsts like (map places_of rows))
more_found like rows kept k most e low =
    let long = length-map kept places_of in
    let same = ap length e in
    let fewer = fewer_before like rows k in
    omega (arith, long, same, fewer, low)
