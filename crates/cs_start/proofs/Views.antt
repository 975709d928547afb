-- A `BTreeMap` whose keys are paths, as a finite map of paths.
use Rattle.std.proofs.Common.{◌≡◌, ◌≢◌, true, false, None, ⊎_elim, List, [], ◌∷◌, cond, length, Some, refl, sym, ap, ◌∙◌, arith}
use Rattle.std.specs.declared.cmp.Ordering.{Ordering}
use Rattle.std.specs.declared.cmp.Ordering.TheVariants.{Less, Equal, Greater}
use Rattle.std.specs.BTreeMap.{insert_entry, is_at}
use Rattle.std.specs.List.Sorted.{IsStrictlySortedBy}
use Rattle.std.specs.Map.{keys_of, lookup, remove_entry}
use Rattle.std.specs.Ordering.{eq_by_cmp, match_ordering}
use Rattle.std.specs.FinMap.{get, get-remove, remove, insert, empty, entries, from_entries, put, find, entries-insert, get-insert}
use Rattle.std.specs.FinMap.{get-from_entries, len-entries, len-empty, same_map}
use Rattle.std.specs.FinMap.Entries.{by_order, find-put}
use Rattle.cs_tree_model.specs.Laws.Paths.{path_cases, path_total, path_exact}
use Rattle.cs_tree_model.specs.Maps.Views.{get_view}
use Rattle.cs_tree_model.specs.Tree.{Path, path_cmp}

module _ {X : Type 0} where
  pub get-keyed : (es : List (Path × X)) (q : Path) → lookup (is_at (path_cmp q)) es ≡ get (from_entries {R = path_cmp} es) q
  get-keyed es q = sym (get_view path_total path_exact es q)

  put_by : (o : Ordering) (k : Path) (v : X) (e : Path × X) (es : List (Path × X)) → insert_entry path_cmp es k v ≡ put path_cmp k v es
      → match_ordering o ((k, v) ∷ e ∷ es) ((e.0, v) ∷ es) (e ∷ insert_entry path_cmp es k v) ≡ by_order o ((k, v) ∷ e ∷ es) ((e.0, v) ∷ es)
      (e ∷ put path_cmp k v es)
  put_by Less k v e es rest = refl
  put_by Equal k v e es rest = refl
  put_by Greater k v e es rest = ap (λ (fs : List (Path × X)). e ∷ fs) rest

  put-keyed : (es : List (Path × X)) (k : Path) (v : X) → insert_entry path_cmp es k v ≡ put path_cmp k v es
  put-keyed [] k v = refl
  put-keyed (e ∷ es) k v = put_by (path_cmp k e.0) k v e es (put-keyed es k v)

  pub insert-keyed : (es : List (Path × X)) (k : Path) (v : X)
      → from_entries {R = path_cmp} (insert_entry path_cmp es k v) ≡ insert (from_entries es) k v
  insert-keyed es k v = same_map path_total path_exact _ _ (λ q.
      get-from_entries path_total _ q ∙ ap (find path_cmp q) (put-keyed es k v) ∙ find-put path_cmp path_total q k v es
      ∙ sym (get-insert path_total (from_entries es) k v q ∙ ap (cond (eq_by_cmp path_cmp q k) (Some v))
      (get-from_entries path_total es q)))

  others_stay : (es : List (Path × X)) (p q : Path) → q ≢ p → find path_cmp q (remove_entry (is_at (path_cmp p)) es) ≡ find path_cmp q es
  others_stay [] p q other = refl
  others_stay (e ∷ es) p q other = ⊎_elim
      (λ (one : (eq_by_cmp path_cmp p e.0 ≡ true) × (p ≡ e.0)). ⊎_elim
      (λ (same : (eq_by_cmp path_cmp q e.0 ≡ true) × (q ≡ e.0)). absurd (other (same.1 ∙ sym one.1)))
      (λ (apart : (eq_by_cmp path_cmp q e.0 ≡ false) × (q ≢ e.0)). rw (one.0, apart.0) refl)
      (path_cases q e.0))
      (λ (two : (eq_by_cmp path_cmp p e.0 ≡ false) × (p ≢ e.0)). rw two.0
      (ap (cond (eq_by_cmp path_cmp q e.0) (Some e.1)) (others_stay es p q other)))
      (path_cases p e.0)

  pub remove-keyed : (es : List (Path × X)) (p : Path) → lookup (is_at (path_cmp p)) (remove_entry (is_at (path_cmp p)) es) ≡ None
      → from_entries {R = path_cmp} (remove_entry (is_at (path_cmp p)) es) ≡ remove (from_entries es) p
  remove-keyed es p gone = same_map path_total path_exact _ _ (λ q. ⊎_elim
      (λ (one : (eq_by_cmp path_cmp q p ≡ true) × (q ≡ p)).
      ap (get (from_entries (remove_entry (is_at (path_cmp p)) es))) one.1 ∙ sym (get-keyed (remove_entry (is_at (path_cmp p)) es) p) ∙ gone
      ∙ sym (get-remove path_total (from_entries es) p q ∙ ap (λ b. cond b None (get (from_entries {R = path_cmp} es) q)) one.0))
      (λ (two : (eq_by_cmp path_cmp q p ≡ false) × (q ≢ p)).
      get-from_entries path_total (remove_entry (is_at (path_cmp p)) es) q ∙ others_stay es p q two.1
      ∙ sym (get-from_entries path_total es q)
      ∙ sym (get-remove path_total (from_entries es) p q ∙ ap (λ b. cond b None (get (from_entries {R = path_cmp} es) q)) two.0))
      (path_cases q p))

  no_length : (es : List (Path × X)) → length es ≡ 0 → es ≡ []
  no_length [] e = refl
  no_length (x ∷ es) e = absurd (omega arith)

  pub entries-empty : entries (empty {X = X} {R = path_cmp}) ≡ []
  entries-empty = no_length _ (sym (len-entries (empty {X = X} {R = path_cmp})) ∙ len-empty path_cmp X)

  put_front : (es : List (Path × X)) (k : Path) (v : X) → IsStrictlySortedBy path_cmp (k ∷ keys_of es) → put path_cmp k v es ≡ (k, v) ∷ es
  unfolding IsStrictlySortedBy
  put_front [] k v sorted = refl
  put_front (e ∷ es) k v sorted = rw sorted.0.0 refl

  -- entries in order are those of their map
  pub entries-keyed : (es : List (Path × X)) → IsStrictlySortedBy path_cmp (keys_of es) → entries (from_entries {R = path_cmp} es) ≡ es
  unfolding IsStrictlySortedBy
  entries-keyed [] sorted = entries-empty
  entries-keyed (e ∷ es) sorted =
      entries-insert path_total (from_entries es) e.0 e.1 ∙ ap (put path_cmp e.0 e.1) (entries-keyed es sorted.1)
      ∙ put_front es e.0 e.1 sorted
