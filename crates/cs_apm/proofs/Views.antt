-- A `BTreeMap` as a finite map, for keys in a total order in which only equal keys tie.
use Rattle.std.proofs.Common.{◌≡◌, List, [], ◌∷◌, cond, length, Some, refl, sym, ap, ◌∙◌, arith}
use Rattle.std.specs.Cmp.{IsTotalOrder}
use Rattle.std.specs.declared.cmp.Ordering.{Ordering}
use Rattle.std.specs.declared.cmp.Ordering.TheVariants.{Less, Equal, Greater}
use Rattle.std.specs.BTreeMap.{insert_entry, is_at}
use Rattle.std.specs.List.Sorted.{IsStrictlySortedBy}
use Rattle.std.specs.Map.{keys_of, lookup}
use Rattle.std.specs.Ordering.{eq_by_cmp, match_ordering}
use Rattle.std.specs.FinMap.{IsAntisymmetric, get, insert, empty, entries, from_entries, put, find, entries-insert, get-insert}
use Rattle.std.specs.FinMap.{get-from_entries, len-entries, len-empty, same_map}
use Rattle.std.specs.FinMap.Entries.{by_order, find-put}
use Rattle.cs_tree_model.specs.Maps.Views.{get_view}

module _ {K X : Type 0} {R : K → K → Ordering} (total : IsTotalOrder R) (exact : IsAntisymmetric R) where
  pub get-keyed : (es : List (K × X)) (q : K) → lookup (is_at (R q)) es ≡ get (from_entries {R = R} es) q
  get-keyed es q = sym (get_view total exact es q)

  put_by : (o : Ordering) (k : K) (v : X) (e : K × X) (es : List (K × X)) → insert_entry R es k v ≡ put R k v es
      → match_ordering o ((k, v) ∷ e ∷ es) ((e.0, v) ∷ es) (e ∷ insert_entry R es k v) ≡ by_order o ((k, v) ∷ e ∷ es) ((e.0, v) ∷ es)
      (e ∷ put R k v es)
  put_by Less k v e es rest = refl
  put_by Equal k v e es rest = refl
  put_by Greater k v e es rest = ap (λ (fs : List (K × X)). e ∷ fs) rest

  put-keyed : (es : List (K × X)) (k : K) (v : X) → insert_entry R es k v ≡ put R k v es
  put-keyed [] k v = refl
  put-keyed (e ∷ es) k v = put_by (R k e.0) k v e es (put-keyed es k v)

  pub insert-keyed : (es : List (K × X)) (k : K) (v : X)
      → from_entries {R = R} (insert_entry R es k v) ≡ insert (from_entries es) k v
  insert-keyed es k v = same_map total exact _ _ (λ q.
      get-from_entries total _ q ∙ ap (find R q) (put-keyed es k v) ∙ find-put R total q k v es
      ∙ sym (get-insert total (from_entries es) k v q ∙ ap (cond (eq_by_cmp R q k) (Some v))
      (get-from_entries total es q)))

  no_length : (es : List (K × X)) → length es ≡ 0 → es ≡ []
  no_length [] e = refl
  no_length (x ∷ es) e = absurd (omega arith)

  pub entries-empty : entries (empty {X = X} {R = R}) ≡ []
  entries-empty = no_length _ (sym (len-entries (empty {X = X} {R = R})) ∙ len-empty R X)

  put_front : (es : List (K × X)) (k : K) (v : X) → IsStrictlySortedBy R (k ∷ keys_of es) → put R k v es ≡ (k, v) ∷ es
  unfolding IsStrictlySortedBy
  put_front [] k v sorted = refl
  put_front (e ∷ es) k v sorted = rw sorted.0.0 refl

  -- entries in order are those of their map
  pub entries-keyed : (es : List (K × X)) → IsStrictlySortedBy R (keys_of es) → entries (from_entries {R = R} es) ≡ es
  unfolding IsStrictlySortedBy
  entries-keyed [] sorted = entries-empty
  entries-keyed (e ∷ es) sorted =
      entries-insert total (from_entries es) e.0 e.1 ∙ ap (put R e.0 e.1) (entries-keyed es sorted.1)
      ∙ put_front es e.0 e.1 sorted
