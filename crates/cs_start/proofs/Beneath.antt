-- The paths below a directory come right after it in the order of paths.
use Rattle.std.proofs.Common.{◌≡◌, ◌≢◌, length-append, ◌<◌, ◌||◌, ◌&&◌, Bool, true, false, not, List, [], ◌∷◌, ◌++◌, length, drop, filter}
use Rattle.std.proofs.Common.{nat_lt, refl, sym, ap, ◌∙◌, append_assoc, arith}
use Rattle.std.proofs.lemmas.List.{append-nil}
use Rattle.std.proofs.lemmas.Bool.{false≢true, and_parts}
use Rattle.std.proofs.lemmas.Bool.Decides.{nat_tests}
use Rattle.std.proofs.lemmas.Slice.Eq.{bytes_eq-Decides, starts_is}
use Rattle.std.specs.declared.cmp.Ordering.{Ordering}
use Rattle.std.specs.declared.cmp.Ordering.TheVariants.{Less, Equal, Greater}
use Rattle.std.specs.Cmp.{IsTotalOrder, both_ways, nat_cmp_total, tied_itself}
use Rattle.std.specs.Cmp.Lexicographic.{lists_total}
use Rattle.std.specs.FinMap.{IsAntisymmetric, slice_cmp-IsAntisymmetric, nat_cmp-IsAntisymmetric}
use Rattle.std.specs.List.{AllByRecursion, list_any, starts_with}
use Rattle.std.specs.List.Sorted.{IsStrictlySortedBy}
use Rattle.std.specs.Map.{keys_of}
use Rattle.std.specs.Prelude.{if◌then◌else◌}
use Rattle.std.specs.Ordering.{is_le, is_lt, is_gt, ordering_then, ordering_reverse}
use Rattle.cs_names.specs.Texts.{same_bytes}
use Rattle.cs_tree_model.specs.Laws.Paths.{snoc_front}
use Rattle.cs_tree_model.specs.Tree.{NameBytes, Path, name_cmp, path_cmp}
use Rattle.cs_start.specs.Below.{is_below}

names_total : IsTotalOrder name_cmp
names_total = lists_total nat_cmp_total

names_exact : IsAntisymmetric name_cmp
names_exact = slice_cmp-IsAntisymmetric nat_cmp-IsAntisymmetric

paths_exact : IsAntisymmetric path_cmp
paths_exact = slice_cmp-IsAntisymmetric names_exact

abbrev IsBelow : Path → Path → Type 0
IsBelow d q = (s : Path) × (q ≡ d ++ s)

-- what comes after a directory, and not after a path below it, is below it
below_between : (d s q : Path) → path_cmp d q ≡ Less → path_cmp q (d ++ s) ≢ Greater → IsBelow d q
below_between [] s q low high = (q, refl)
below_between (x ∷ d) s [] low high = absurd (false≢true (ap is_lt low))
below_between (x ∷ d) s (y ∷ q) low high =
    elim (name_cmp x y) as (λ o. name_cmp x y ≡ o → IsBelow (x ∷ d) (y ∷ q)) [
      | Less ↦ λ is.
          let back : name_cmp y x ≡ Greater = names_total.antisymm y x ∙ ap ordering_reverse is in
          absurd (high (ap (λ o. ordering_then o (path_cmp q (d ++ s))) back))
      | Equal ↦ λ is.
          let back : name_cmp y x ≡ Equal = names_total.antisymm y x ∙ ap ordering_reverse is in
          let rest = below_between d s q (sym (ap (λ o. ordering_then o (path_cmp d q)) is) ∙ low)
          (λ g. high (ap (λ o. ordering_then o (path_cmp q (d ++ s))) back ∙ g)) in
          (rest.0, (λ i. names_exact y x back i ∷ rest.1 i))
      | Greater ↦ λ is. absurd (false≢true (sym (ap is_gt low) ∙ ap is_gt (ap (λ o. ordering_then o (path_cmp d q)) is)))
    ] refl

-- a path comes before those below it
before_below : (d : Path) (x : NameBytes) (s : Path) → path_cmp d (d ++ x ∷ s) ≡ Less
before_below [] x s = refl
before_below (y ∷ d) x s = ap (λ o. ordering_then o (path_cmp d (d ++ x ∷ s))) (tied_itself names_total y) ∙ before_below d x s

not_less : Less ≢ Greater
not_less e = false≢true (ap is_gt e)

not_equal : Equal ≢ Greater
not_equal e = false≢true (ap is_gt e)

is_less : (o : Ordering) → is_lt o && not false ≡ true → o ≡ Less
is_less Less is = refl
is_less Equal is = absurd (false≢true is)
is_less Greater is = absurd (false≢true is)

equal_less : Equal ≢ Less
equal_less e = false≢true (ap is_lt e)

no_more : (b : Bool) → b && false ≡ false
no_more true = refl
no_more false = refl

module _ (d : Path) where
  -- one that begins with the path is the path and more names
  begins : (p : Path) → starts_with same_bytes p d ≡ true → p ≡ d ++ drop (length d) p
  begins p is = (starts_is bytes_eq-Decides p d (starts_with same_bytes p d) refl).0 is

  begins_of : (p s : Path) → p ≡ d ++ s → starts_with same_bytes p d ≡ true
  begins_of p s is = (starts_is bytes_eq-Decides p d (starts_with same_bytes p d) refl).1 s is

  longer : (p s : Path) → p ≡ d ++ s → length d < length p → path_cmp d p ≡ Less
  longer p [] is more = let same : length p ≡ length d = ap length (is ∙ append-nil d) in absurd (omega arith)
  longer p (x ∷ s) is more = ap (path_cmp d) is ∙ before_below d x s

  after_below : (p : Path) → is_below d p ≡ true → path_cmp d p ≡ Less
  after_below p is =
      let both : (nat_lt (length d) (length p) ≡ true) × (starts_with same_bytes p d ≡ true) = and_parts _ _ is in
      let more : length d < length p = grind (arith, nat_tests, both.0) in
      longer p (drop (length d) p) (begins p both.1) more

  below_by : (p s : Path) → p ≡ d ++ s → path_cmp d p ≡ Less → nat_lt (length d) (length p) ≡ true
  below_by p [] is after = absurd (equal_less (sym (ap (path_cmp d) (is ∙ append-nil d) ∙ tied_itself (lists_total names_total) d) ∙ after))
  below_by p (x ∷ s) is after =
      let more : length d < length p = omega (arith, ap length is, length-append d (x ∷ s)) in
      grind (arith, nat_tests, more)

  below_of : (p : Path) → path_cmp d p ≡ Less → starts_with same_bytes p d ≡ true → is_below d p ≡ true
  below_of p after starts = rw (below_by p (drop (length d) p) (begins p starts) after) starts

  -- what is between the path and one below it
  between : (p q : Path) → path_cmp d p ≡ Less → path_cmp p q ≡ Less → is_below d q ≡ true → starts_with same_bytes p d ≡ true
  between p q low high below =
      let is = begins q (and_parts _ _ below).1 in
      let there = below_between d (drop (length d) q) p low (λ g. not_less (sym high ∙ ap (path_cmp p) is ∙ g)) in
      begins_of p there.0 there.1

  not_after_by : (p : Path) (b : Bool) → is_below d p ≡ b → is_lt (path_cmp d p) && not false ≡ false → b ≡ false
  not_after_by p true below is = absurd (false≢true (sym is ∙ ap (λ o. is_lt o && not false) (after_below p below)))
  not_after_by p false below is = refl

  not_after : (p : Path) → is_lt (path_cmp d p) && not false ≡ false → is_below d p ≡ false
  not_after p is = not_after_by p (is_below d p) refl is

  -- an entry of a directory is below a path that the directory begins with
  name_begins : (c r s : Path) (n : NameBytes) → c ++ n ∷ [] ≡ d ++ s → s ≡ r → is_below d (c ++ n ∷ []) ≡ true
      → starts_with same_bytes c d ≡ true
  name_begins c [] s n is none below =
      let both : (nat_lt (length d) (length (c ++ n ∷ [])) ≡ true) × (starts_with same_bytes (c ++ n ∷ []) d ≡ true) =
      and_parts _ _ below in
      let more : length d < length (c ++ n ∷ []) = grind (arith, nat_tests, both.0) in
      absurd (let same : length (c ++ n ∷ []) ≡ length d = ap length (is ∙ ap (λ t. d ++ t) none ∙ append-nil d) in omega arith)
  name_begins c (x ∷ r) s n is some below =
      let last = last_of x r in
      begins_of c last.0 (snoc_front c (d ++ last.0) n last.1.0
      (is ∙ ap (λ t. d ++ t) (some ∙ last.1.1) ∙ sym (append_assoc d last.0 (last.1.0 ∷ []))))
    where
      last_of : (x : NameBytes) (r : Path) → (t : Path) × ((y : NameBytes) × (x ∷ r ≡ t ++ y ∷ []))
      last_of x [] = ([], (x, refl))
      last_of x (y ∷ r) = let rest = last_of y r in (x ∷ rest.0, (rest.1.0, ap (λ t. x ∷ t) rest.1.1))

  name_below : (c : Path) (n : NameBytes) → starts_with same_bytes c d ≡ true → is_below d (c ++ n ∷ []) ≡ true
  name_below c n starts =
      let rest = drop (length d) c in
      let whole : c ++ n ∷ [] ≡ d ++ (rest ++ n ∷ []) = ap (λ t. t ++ n ∷ []) (begins c starts) ∙ append_assoc d rest (n ∷ []) in
      let more : length d < length (c ++ n ∷ []) =
      omega (arith, ap length (begins c starts), length-append d rest, length-append c (n ∷ [])) in
      let longer : nat_lt (length d) (length (c ++ n ∷ [])) ≡ true = grind (arith, nat_tests, more) in
      rw longer (begins_of (c ++ n ∷ []) (rest ++ n ∷ []) whole)

  pub name-in : (n : NameBytes) → is_below d (d ++ n ∷ []) ≡ true
  name-in n = name_below d n (begins_of d [] (sym (append-nil d)))

  pub below-name : (c : Path) (n : NameBytes) → is_below d (c ++ n ∷ []) ≡ starts_with same_bytes c d
  below-name c n = both_ways (is_below d (c ++ n ∷ [])) (starts_with same_bytes c d)
      (λ below.
      let both : (nat_lt (length d) (length (c ++ n ∷ [])) ≡ true) × (starts_with same_bytes (c ++ n ∷ []) d ≡ true) =
      and_parts _ _ below in
      let rest = drop (length d) (c ++ n ∷ []) in
      name_begins c rest rest n (begins (c ++ n ∷ []) both.1) refl below)
      (name_below c n)

  past_not : (n : NameBytes) (q : Path) → path_cmp q (d ++ n ∷ []) ≢ Greater → path_cmp d q ≡ Less → is_below d q ≡ false → ⊥
  past_not n q high low none =
      let there = below_between d (n ∷ []) q low high in
      false≢true (sym none ∙ below_of q low (begins_of q there.0 there.1))

  low_of : (x : NameBytes) (q : Path) (o : Ordering) → path_cmp (d ++ x ∷ []) q ≡ o → is_le o ≡ true → path_cmp d q ≡ Less
  low_of x q Less is after = (lists_total names_total).trans d (d ++ x ∷ []) q (before_below d x []) is
  low_of x q Equal is after = ap (path_cmp d) (sym (paths_exact (d ++ x ∷ []) q is)) ∙ before_below d x []
  low_of x q Greater is after = absurd (false≢true after)

  past_by : (n : NameBytes) (q : Path) (o : Ordering) → path_cmp q (d ++ n ∷ []) ≡ o → path_cmp d q ≡ Less → is_below d q ≡ false
      → ordering_reverse o ≡ Less
  past_by n q Less is low none = absurd (past_not n q (λ g. not_less (sym is ∙ g)) low none)
  past_by n q Equal is low none = absurd (past_not n q (λ g. not_equal (sym is ∙ g)) low none)
  past_by n q Greater is low none = refl

  -- what comes after an entry of the directory, and isn't below the directory, comes after all its entries
  pub past-entries : (x n : NameBytes) (q : Path) → is_le (path_cmp (d ++ x ∷ []) q) ≡ true → is_below d q ≡ false
      → path_cmp (d ++ n ∷ []) q ≡ Less
  past-entries x n q after none =
      (lists_total names_total).antisymm (d ++ n ∷ []) q
      ∙ past_by n q (path_cmp q (d ++ n ∷ [])) refl (low_of x q (path_cmp (d ++ x ∷ []) q) refl after) none

  module _ {X : Type 0} where
    -- whether an entry comes after the path
    abbrev after : Path × X → Bool
    after e = is_lt (path_cmp d e.0) && not false

    abbrev any_below : List (Path × X) → Bool
    any_below es = list_any (λ e. is_below d e.0) es

    none_by : (k q : Path) (es : List (Path × X)) (b : Bool) → path_cmp d k ≡ Less → starts_with same_bytes k d ≡ false
        → path_cmp k q ≡ Less → is_below d q ≡ b → any_below es ≡ false → b || any_below es ≡ false
    none_by k q es true low starts high is rest = absurd (false≢true (sym starts ∙ between k q low high is))
    none_by k q es false low starts high is rest = rest

    -- nothing after the path is below it
    none_below : (k : Path) → path_cmp d k ≡ Less → starts_with same_bytes k d ≡ false → (es : List (Path × X))
        → AllByRecursion (λ l. path_cmp k l ≡ Less) (keys_of es) → any_below es ≡ false
    none_below k low starts [] all = refl
    none_below k low starts (e ∷ es) all = none_by k e.0 es (is_below d e.0) low starts all.0 refl (none_below k low starts es all.1)

    none_after : (e : Path × X) (es : List (Path × X)) (b : Bool) → after e ≡ b → (filter after es ≡ [] → false ≡ any_below es)
        → (if b then e ∷ filter after es else filter after es) ≡ [] → false ≡ any_below (e ∷ es)
    none_after e es true here rest is = absurd (cc)
    none_after e es false here rest is = rest is ∙ ap (λ b. b || any_below es) (sym (not_after e.0 here))

    -- nothing comes after the path
    pub below-none : (es : List (Path × X)) → filter after es ≡ [] → false ≡ any_below es
    below-none [] is = refl
    below-none (e ∷ es) is = none_after e es (after e) refl (below-none es) is

    here_by : (e : Path × X) (es : List (Path × X)) (b : Bool) → AllByRecursion (λ l. path_cmp e.0 l ≡ Less) (keys_of es)
        → starts_with same_bytes e.0 d ≡ b → path_cmp d e.0 ≡ Less → b ≡ any_below (e ∷ es)
    here_by e es true all starts low = ap (λ b. b || any_below es) (sym (below_of e.0 low starts))
    here_by e es false all starts low =
        sym (none_below e.0 low starts es all)
        ∙ ap (λ b. b || any_below es) (sym (ap (λ b. nat_lt (length d) (length e.0) && b) starts
        ∙ no_more (nat_lt (length d) (length e.0))))

    first_by : (e : Path × X) (es : List (Path × X)) (k : Path) (v : X) (rest : List (Path × X)) (b : Bool) → after e ≡ b
        → AllByRecursion (λ l. path_cmp e.0 l ≡ Less) (keys_of es)
        → (filter after es ≡ (k, v) ∷ rest → starts_with same_bytes k d ≡ any_below es)
        → (if b then e ∷ filter after es else filter after es) ≡ (k, v) ∷ rest → starts_with same_bytes k d ≡ any_below (e ∷ es)
    first_by e es k v rest true here all later is =
        let same : e ≡ (k, v) = cc in
        ap (λ (f : Path × X). starts_with same_bytes f.0 d) (sym same) ∙ here_by e es _ all refl (is_less _ here)
    first_by e es k v rest false here all later is = later is ∙ ap (λ b. b || any_below es) (sym (not_after e.0 here))

    -- the first that comes after the path decides
    pub below-first : (es : List (Path × X)) (k : Path) (v : X) (rest : List (Path × X)) → IsStrictlySortedBy path_cmp (keys_of es)
        → filter after es ≡ (k, v) ∷ rest
        → starts_with same_bytes k d ≡ any_below es
    unfolding IsStrictlySortedBy
    below-first [] k v rest sorted is = absurd (cc)
    below-first (e ∷ es) k v rest sorted is = first_by e es k v rest (after e) refl sorted.0 (below-first es k v rest sorted.1) is
