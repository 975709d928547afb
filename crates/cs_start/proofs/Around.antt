-- StartEntries that come one after another among others: all of them, in the order of paths.
use Rattle.std.proofs.Common.{◌≡◌, ◌≢◌, Bool, true, false, cond, T, ◌||◌, List, [], ◌∷◌, ◌++◌, Option, None, Some, Result, Ok, Err}
use Rattle.std.proofs.Common.{OnOk, OnErr, IfOk, IsSome, ⊎_elim, filter, refl, sym, ap, subst, ◌∙◌}
use Rattle.std.proofs.lemmas.Bool.{false≢true}
use Rattle.std.specs.declared.cmp.Ordering.{Ordering}
use Rattle.std.specs.declared.cmp.Ordering.TheVariants.{Less, Equal, Greater}
use Rattle.std.specs.BTreeMap.{BTreeMap, IsOrdered}
use Rattle.std.specs.FinMap.{empty, entries, entries_sorted, find, from_entries, get, get-entries, get-from_entries, insert, is_sorted}
use Rattle.std.specs.FinMap.{same_map}
use Rattle.std.specs.FinMap.{get-insert, get-remove, remove}
use Rattle.std.specs.FinMap.Entries.{below_all, same_entries}
use Rattle.std.specs.List.{AllByRecursion, list_any}
use Rattle.std.specs.List.Sorted.{IsStrictlySortedBy}
use Rattle.std.specs.Map.{keys_of}
use Rattle.std.specs.Cmp.{tied_itself}
use Rattle.std.specs.Option.{is_some, option_or}
use Rattle.std.specs.Ordering.{eq_by_cmp, is_eq, is_gt, is_le, is_lt, ordering_reverse}
use Rattle.cs_tree_model.specs.Laws.Paths.{option_cases, path_cases, path_exact, path_total}
use Rattle.cs_tree_model.specs.Maps.Changes.{get-insert_other}
use Rattle.cs_tree_model.specs.Maps.Orders.{both_first, both_second, both_true, less_of}
use Rattle.cs_tree_model.specs.Tree.{NameBytes, Path, path_cmp}
use Rattle.cs_start.specs.Below.{is_below}
use Rattle.cs_start.specs.Entries.{StartEntries}
use Rattle.cs_start.specs.Siblings.{AreBefore, AreElsewhere, AreIn, BeginsAt, IsIn, Siblings, with_all}
use Rattle.cs_start.specs.Unions.{union}
use Rattle.cs_start.specs.declared.entry.StartEntry.{StartEntry}
use Rattle.cs_start.proofs.Beneath.{name-in, past-entries}
use Rattle.cs_start.proofs.InDirectory.{places}
use Rattle.cs_start.proofs.Unions.{find-append, get-union}
use Rattle.cs_start.proofs.Views.{entries-empty, entries-keyed}

-- ---- what a call promised, whether it succeeded or not

pub on_ok : {A E P Q : Type 0} (r : Result A E) → (P → Q) → OnOk r P → OnOk r Q
on_ok (Ok a) f p = f p
on_ok (Err e) f p = p

pub if_ok : {A E : Type 0} {P Q : A → Type 0} (r : Result A E) → ((a : A) → P a → Q a) → IfOk r P → IfOk r Q
if_ok (Ok a) f p = f a p
if_ok (Err e) f p = p

pub either : {A E P Q : Type 0} (R : Type 0) (r : Result A E) → OnOk r P → OnErr r Q → (P → R) → (Q → R) → R
either R (Ok a) p q f g = f p
either R (Err e) p q f g = g q

abbrev Listed : Type 0
Listed = List (Path × StartEntry)

-- ---- one after another, with no order of their own

find_later : (q : Path) (es : Listed) → T (below_all path_cmp q es) → find path_cmp q es ≡ None
find_later q [] all = refl
find_later q (e ∷ es) all = ⊎_elim
    (λ (one : (eq_by_cmp path_cmp q e.0 ≡ true) × (q ≡ e.0)).
    absurd (subst (λ o. T (is_lt o)) (tied_itself path_total q) (subst (λ p. T (is_lt (path_cmp q p))) (sym one.1) (both_first _ _ all))))
    (λ (two : (eq_by_cmp path_cmp q e.0 ≡ false) × (q ≢ e.0)). ap (λ b. cond b (Some e.1) (find path_cmp q es)) two.0
    ∙ find_later q es (both_second _ _ all))
    (path_cases q e.0)

get-with_all : (m : StartEntries) (es : Listed) (q : Path) → T (is_sorted path_cmp es)
    → get (with_all m es) q ≡ option_or (find path_cmp q es) (get m q)
get-with_all m [] q sorted = refl
get-with_all m (e ∷ es) q sorted =
    get-with_all (insert m e.0 e.1) es q (both_second _ _ sorted)
    ∙ ap (option_or (find path_cmp q es)) (get-insert path_total m e.0 e.1 q)
    ∙ ⊎_elim
    (λ (one : (eq_by_cmp path_cmp q e.0 ≡ true) × (q ≡ e.0)).
    let none : find path_cmp q es ≡ None = find_later q es (subst (λ p. T (below_all path_cmp p es)) (sym one.1) (both_first _ _ sorted)) in
    rw (one.0, none) refl)
    (λ (two : (eq_by_cmp path_cmp q e.0 ≡ false) × (q ≢ e.0)). rw two.0 refl)
    (path_cases q e.0)

-- all entries of a map
pub with_all-entries : (m s : StartEntries) → with_all m (entries s) ≡ union s m
with_all-entries m s = same_map path_total path_exact _ _ (λ q.
    get-with_all m (entries s) q (entries_sorted s)
    ∙ ap (λ o. option_or o (get m q)) (sym (get-entries s q))
    ∙ sym (get-union s m q))

-- ---- lists in the order of paths

below_append : (p : Path) (es fs : Listed) → T (below_all path_cmp p es) → T (below_all path_cmp p fs) → T (below_all path_cmp p (es ++ fs))
below_append p [] fs low high = high
below_append p (e ∷ es) fs low high = both_true _ _ (both_first _ _ low) (below_append p es fs (both_second _ _ low) high)

below_left : (p : Path) (es fs : Listed) → T (below_all path_cmp p (es ++ fs)) → T (below_all path_cmp p es)
below_left p [] fs low = tt
below_left p (e ∷ es) fs low = both_true _ _ (both_first _ _ low) (below_left p es fs (both_second _ _ low))

below_right : (p : Path) (es fs : Listed) → T (below_all path_cmp p (es ++ fs)) → T (below_all path_cmp p fs)
below_right p [] fs low = low
below_right p (e ∷ es) fs low = below_right p es fs (both_second _ _ low)

less : (p q : Path) → path_cmp p q ≡ Less → T (is_lt (path_cmp p q))
less p q is = subst (λ o. T (is_lt o)) (sym is) tt

below_more : (p q : Path) (es : Listed) → path_cmp p q ≡ Less → T (below_all path_cmp q es) → T (below_all path_cmp p es)
below_more p q [] is low = tt
below_more p q (e ∷ es) is low =
    both_true _ _ (less p e.0 (path_total.trans p q e.0 is (less_of _ (both_first _ _ low)))) (below_more p q es is (both_second _ _ low))

sorted_append : (es fs : Listed) → T (is_sorted path_cmp es) → T (is_sorted path_cmp fs) → AreBefore es fs
    → T (is_sorted path_cmp (es ++ fs))
sorted_append [] fs low high all = high
sorted_append (e ∷ es) fs low high all =
    both_true _ _ (below_append e.0 es fs (both_first _ _ low) all.0) (sorted_append es fs (both_second _ _ low) high all.1)

-- what comes between two parts of a list
sorted_between : (bs es fs : Listed) → T (is_sorted path_cmp (bs ++ fs)) → T (is_sorted path_cmp es) → AreBefore bs es → AreBefore es fs
    → T (is_sorted path_cmp (bs ++ (es ++ fs)))
sorted_between [] es fs outer inner low high = sorted_append es fs inner outer high
sorted_between (b ∷ bs) es fs outer inner low high =
    both_true _ _
    (below_append b.0 bs (es ++ fs) (below_left b.0 bs fs (both_first _ _ outer))
    (below_append b.0 es fs low.0 (below_right b.0 bs fs (both_first _ _ outer))))
    (sorted_between bs es fs (both_second _ _ outer) inner low.1 high)

-- ---- the siblings of a directory, and the others

elsewhere_first : (o p r : Option StartEntry) → option_or o r ≡ None → option_or o (option_or p r) ≡ option_or p (option_or o r)
elsewhere_first None p r is = refl
elsewhere_first (Some x) p r is = absurd (cc)

module _ (s : Siblings) (m : StartEntries) (bs fs : Listed) (parts : entries m ≡ bs ++ fs) (all : AreIn s) (apart : AreElsewhere s m) where
  none_here : (q : Path) → ((n : NameBytes) → q ≢ s.directory ++ n ∷ []) → get s.entries q ≡ None
  none_here q other = ⊎_elim
      (λ (none : get s.entries q ≡ None). none)
      (λ (some : (e : StartEntry) × (get s.entries q ≡ Some e)). absurd
      (let here : IsIn s.directory q = all q (ap is_some some.1) in other here.0 here.1))
      (option_cases (get s.entries q))

  find_parts : (q : Path) → get m q ≡ option_or (find path_cmp q bs) (find path_cmp q fs)
  find_parts q = get-entries m q ∙ ap (find path_cmp q) parts ∙ find-append q bs fs

  swapped : (q : Path) → option_or (find path_cmp q bs) (option_or (get s.entries q) (find path_cmp q fs))
      ≡ option_or (get s.entries q) (option_or (find path_cmp q bs) (find path_cmp q fs))
  swapped q = ⊎_elim
      (λ (here : IsIn s.directory q).
      elsewhere_first (find path_cmp q bs) (get s.entries q) (find path_cmp q fs)
      (sym (find_parts q) ∙ ap (get m) here.1 ∙ apart here.0))
      (λ (other : (n : NameBytes) → q ≢ s.directory ++ n ∷ []).
      ap (λ o. option_or (find path_cmp q bs) (option_or o (find path_cmp q fs))) (none_here q other)
      ∙ ap (λ o. option_or o (option_or (find path_cmp q bs) (find path_cmp q fs))) (sym (none_here q other)))
      (places s.directory q)

  find_all : (q : Path) → find path_cmp q (bs ++ (entries s.entries ++ fs)) ≡ find path_cmp q (entries (union s.entries m))
  find_all q =
      find-append q bs (entries s.entries ++ fs)
      ∙ ap (option_or (find path_cmp q bs))
      (find-append q (entries s.entries) fs ∙ ap (λ o. option_or o (find path_cmp q fs)) (sym (get-entries s.entries q)))
      ∙ swapped q
      ∙ ap (option_or (get s.entries q)) (sym (find_parts q))
      ∙ sym (get-union s.entries m q)
      ∙ get-entries (union s.entries m) q

  pub entries-around : AreBefore bs (entries s.entries) → AreBefore (entries s.entries) fs
      → bs ++ (entries s.entries ++ fs) ≡ entries (union s.entries m)
  entries-around low high =
      same_entries path_cmp path_total path_exact _ _
      (sorted_between bs (entries s.entries) fs (subst (λ es. T (is_sorted path_cmp es)) parts (entries_sorted m))
      (entries_sorted s.entries) low high)
      (entries_sorted (union s.entries m)) find_all

-- ---- where the others are split

kept_by : (f : Path × StartEntry → Bool) (e : Path × StartEntry) (es : Listed) (b : Bool) → f e ≡ b → AllByRecursion (λ e. f e ≡ true) es
    → AllByRecursion (λ e. f e ≡ true) (cond b (e ∷ es) es)
kept_by f e es true is all = (is, all)
kept_by f e es false is all = all

all_kept : (f : Path × StartEntry → Bool) (es : Listed) → AllByRecursion (λ e. f e ≡ true) (filter f es)
all_kept f [] = tt
all_kept f (e ∷ es) = kept_by f e (filter f es) (f e) refl (all_kept f es)

any_left : (a b : Bool) → a || b ≡ false → a ≡ false
any_left true b is = is
any_left false b is = refl

any_right : (a b : Bool) → a || b ≡ false → b ≡ false
any_right true b is = absurd (false≢true (sym is))
any_right false b is = is

pub none_later : (f : Path × StartEntry → Bool) (es fs : Listed) → list_any f (es ++ fs) ≡ false → AllByRecursion (λ e. f e ≡ false) fs
none_later f [] [] is = tt
none_later f [] (e ∷ es) is = (any_left (f e) (list_any f es) is, none_later f [] es (any_right (f e) (list_any f es) is))
none_later f (e ∷ es) fs is = none_later f es fs (any_right (f e) (list_any f (es ++ fs)) is)

nothing_in : (d : Path) (n : NameBytes) (es : Listed) → list_any (λ e. is_below d e.0) es ≡ false → find path_cmp (d ++ n ∷ []) es ≡ None
nothing_in d n [] is = refl
nothing_in d n (e ∷ es) is = ⊎_elim
    (λ (one : (eq_by_cmp path_cmp (d ++ n ∷ []) e.0 ≡ true) × (d ++ n ∷ [] ≡ e.0)).
    absurd (false≢true
    (sym (any_left (is_below d e.0) (list_any (λ e. is_below d e.0) es) is) ∙ ap (is_below d) (sym one.1) ∙ name-in d n)))
    (λ (two : (eq_by_cmp path_cmp (d ++ n ∷ []) e.0 ≡ false) × (d ++ n ∷ [] ≢ e.0)).
    ap (λ b. cond b (Some e.1) (find path_cmp (d ++ n ∷ []) es)) two.0
    ∙ nothing_in d n es (any_right (is_below d e.0) (list_any (λ e. is_below d e.0) es) is))
    (path_cases (d ++ n ∷ []) e.0)

-- a directory that nothing is below
pub elsewhere-none : (s : Siblings) (es : Listed) → list_any (λ e. is_below s.directory e.0) es ≡ false → AreElsewhere s (from_entries es)
elsewhere-none s es is n = get-from_entries path_total es (s.directory ++ n ∷ []) ∙ nothing_in s.directory n es is

pub elsewhere-insert : (s : Siblings) (m k : StartEntries) (p : Path) (e : StartEntry) → k ≡ insert m p e
    → ((n : NameBytes) → p ≢ s.directory ++ n ∷ []) → AreElsewhere s m → AreElsewhere s k
elsewhere-insert s m k p e is other all n =
    ap (λ l. get l (s.directory ++ n ∷ [])) is
    ∙ get-insert_other path_total path_exact m (s.directory ++ n ∷ []) p e (λ same. other n (sym same))
    ∙ all n

none_left : (b : Bool) (o : Option StartEntry) → o ≡ None → cond b None o ≡ None
none_left true o is = refl
none_left false o is = is

pub elsewhere-remove : (s : Siblings) (m k : StartEntries) (p : Path) → k ≡ remove m p → AreElsewhere s m → AreElsewhere s k
elsewhere-remove s m k p is all n =
    ap (λ l. get l (s.directory ++ n ∷ [])) is
    ∙ get-remove path_total m p (s.directory ++ n ∷ [])
    ∙ none_left (eq_by_cmp path_cmp (s.directory ++ n ∷ []) p) (get m (s.directory ++ n ∷ [])) (all n)

module _ (s : Siblings) (first : Path) (begins : BeginsAt s.entries first) (all : AreIn s) where
  reversed : (o : Ordering) → is_gt o ≡ true → ordering_reverse o ≡ Less
  reversed Less is = absurd (false≢true is)
  reversed Equal is = absurd (false≢true is)
  reversed Greater is = refl

  before_first : (p : Path) → is_gt (path_cmp first p) ≡ true → path_cmp p first ≡ Less
  before_first p is = path_total.antisymm p first ∙ reversed (path_cmp first p) is

  rest_sorted : T (is_sorted path_cmp ((first, begins.0) ∷ begins.1.0))
  rest_sorted = subst (λ es. T (is_sorted path_cmp es)) begins.1.1 (entries_sorted s.entries)

  before_by : (bs : Listed) → AllByRecursion (λ e. is_gt (path_cmp first e.0) ≡ true) bs → AreBefore bs ((first, begins.0) ∷ begins.1.0)
  before_by [] each = tt
  before_by (b ∷ bs) each =
      let low = before_first b.0 each.0 in
      (both_true _ _ (less b.0 first low) (below_more b.0 first begins.1.0 low (both_first _ _ rest_sorted)), before_by bs each.1)

  pub before_siblings : (es : Listed) → AreBefore (filter (λ e. is_gt (path_cmp first e.0)) es) (entries s.entries)
  before_siblings es =
      subst (AreBefore (filter (λ e. is_gt (path_cmp first e.0)) es)) (sym begins.1.1)
      (before_by (filter (λ e. is_gt (path_cmp first e.0)) es) (all_kept (λ e. is_gt (path_cmp first e.0)) es))

  -- each path of the siblings is in the directory
  found : (q : Path) → IsSome (find path_cmp q (entries s.entries)) → IsIn s.directory q
  found q some = all q (subst IsSome (sym (get-entries s.entries q)) some)

  first_in : IsIn s.directory first
  first_in = found first (subst (λ es. IsSome (find path_cmp first es)) (sym begins.1.1)
      (ap (λ o. is_some (cond (is_eq o) (Some begins.0) (find path_cmp first begins.1.0))) (tied_itself path_total first)))

  after_by : (n : NameBytes) (fs : Listed) → AllByRecursion (λ e. is_le (path_cmp first e.0) ≡ true) fs
      → AllByRecursion (λ e. is_below s.directory e.0 ≡ false) fs → T (below_all path_cmp (s.directory ++ n ∷ []) fs)
  after_by n [] high none = tt
  after_by n (f ∷ fs) high none =
      both_true _ _
      (less (s.directory ++ n ∷ []) f.0
      (past-entries s.directory first_in.0 n f.0 (subst (λ p. is_le (path_cmp p f.0) ≡ true) first_in.1 high.0) none.0))
      (after_by n fs high.1 none.1)

  each_after : (es fs : Listed) → ((q : Path) → IsSome (find path_cmp q es) → IsIn s.directory q)
      → AllByRecursion (λ e. is_le (path_cmp first e.0) ≡ true) fs
      → AllByRecursion (λ e. is_below s.directory e.0 ≡ false) fs → AreBefore es fs
  each_after [] fs is high none = tt
  each_after (e ∷ es) fs is high none =
      let here = is e.0 (ap (λ o. is_some (cond (is_eq o) (Some e.1) (find path_cmp e.0 es))) (tied_itself path_total e.0)) in (
        subst (λ p. T (below_all path_cmp p fs)) (sym here.1) (after_by here.0 fs high none),
        each_after es fs (λ q some. is q (later (eq_by_cmp path_cmp q e.0) e.1 (find path_cmp q es) some)) high none,
      )
    where
      later : (b : Bool) (v : StartEntry) (o : Option StartEntry) → IsSome o → IsSome (cond b (Some v) o)
      later true v o some = refl
      later false v o some = some

  pub after_siblings : (es : Listed) → AllByRecursion (λ e. is_below s.directory e.0 ≡ false) (filter (λ e. is_le (path_cmp first e.0)) es)
      → AreBefore (entries s.entries) (filter (λ e. is_le (path_cmp first e.0)) es)
  after_siblings es none =
      each_after (entries s.entries) (filter (λ e. is_le (path_cmp first e.0)) es) found
      (all_kept (λ e. is_le (path_cmp first e.0)) es) none

-- the parts of a map before the first of the siblings, and after them
module _ {E : Type 0} (old new : Listed) (order : entries (from_entries {R = path_cmp} old) ≡ old)
    (low : IsStrictlySortedBy path_cmp (keys_of new)) (r : Result (BTreeMap Path StartEntry) E) where
  pub split_parts : IfOk r (IsOrdered path_cmp) → IfOk r (λ n. old ≡ new ++ n.entries)
      → IfOk r (λ n. entries (from_entries {R = path_cmp} old) ≡ entries (from_entries {R = path_cmp} new)
      ++ entries (from_entries {R = path_cmp} n.entries))
  split_parts = by r
    where
      by : (r : Result (BTreeMap Path StartEntry) E) → IfOk r (IsOrdered path_cmp) → IfOk r (λ n. old ≡ new ++ n.entries)
          → IfOk r (λ n. entries (from_entries {R = path_cmp} old) ≡ entries (from_entries {R = path_cmp} new)
          ++ entries (from_entries {R = path_cmp} n.entries))
      by (Ok n) high parts = order ∙ parts ∙ (λ i. sym (entries-keyed new low) i ++ sym (entries-keyed n.entries high) i)
      by (Err e) high parts = tt

  module _ (s : Siblings) (first : Path) (begins : BeginsAt s.entries first) (all : AreIn s) where
    pub split_before : OnOk r (new ≡ filter (λ e. is_gt (path_cmp first e.0)) old)
        → OnOk r (AreBefore (entries (from_entries {R = path_cmp} new)) (entries s.entries))
    split_before = on_ok r (λ is.
        subst (λ l. AreBefore l (entries s.entries)) (sym (entries-keyed new low ∙ is)) (before_siblings s first begins all old))

    pub split_after : list_any (λ e. is_below s.directory e.0) old ≡ false → IfOk r (IsOrdered path_cmp)
        → IfOk r (λ n. old ≡ new ++ n.entries)
        → IfOk r (λ n. n.entries ≡ filter (λ e. is_le (path_cmp first e.0)) old)
        → IfOk r (λ n. AreBefore (entries s.entries) (entries (from_entries {R = path_cmp} n.entries)))
    split_after none = by r
      where
        by : (r : Result (BTreeMap Path StartEntry) E) → IfOk r (IsOrdered path_cmp) → IfOk r (λ n. old ≡ new ++ n.entries)
            → IfOk r (λ n. n.entries ≡ filter (λ e. is_le (path_cmp first e.0)) old)
            → IfOk r (λ n. AreBefore (entries s.entries) (entries (from_entries {R = path_cmp} n.entries)))
        by (Ok n) high parts is =
            let later : AllByRecursion (λ e. is_below s.directory e.0 ≡ false) n.entries =
            none_later (λ e. is_below s.directory e.0) new n.entries (ap (list_any (λ e. is_below s.directory e.0)) (sym parts) ∙ none) in
            subst (AreBefore (entries s.entries)) (sym (entries-keyed n.entries high ∙ is))
            (after_siblings s first begins all old (subst (AllByRecursion (λ e. is_below s.directory e.0 ≡ false)) is later))
        by (Err e) high parts is = tt

-- a directory without entries
nothing : (es : Listed) → AreBefore es []
nothing [] = tt
nothing (e ∷ es) = (tt, nothing es)

pub none_before : (s : Siblings) (es : Listed) → s.entries ≡ empty → AreBefore es (entries s.entries)
none_before s es is = subst (AreBefore es) (sym (ap entries is ∙ entries-empty)) (nothing es)

pub none_after : (s : Siblings) (es : Listed) → s.entries ≡ empty → AreBefore (entries s.entries) es
none_after s es is = subst (λ fs. AreBefore fs es) (sym (ap entries is ∙ entries-empty)) tt
