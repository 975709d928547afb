-- The entries of one directory as `Siblings` keeps them: by legal names, in the order of names.
use Rattle.std.proofs.Common.{◌≡◌, ◌||◌, Bool, true, false, cond, List, [], ◌∷◌, ◌++◌, None, Some}
use Rattle.std.proofs.Common.{length, refl, sym, ap, ◌∙◌, arith}
use Rattle.std.specs.declared.cmp.Ordering.TheVariants.{Less, Equal, Greater}
use Rattle.std.specs.BTreeMap.{BTreeMap, UpdatesBy, get_by_text, insert_entry}
use Rattle.std.specs.Cmp.{tied_itself}
use Rattle.std.specs.FinMap.{entries, find, get, get-from_entries, get-insert, get-remove}
use Rattle.std.specs.List.{AllByRecursion, list_any, starts_with}
use Rattle.std.specs.List.Sorted.{IsStrictlySortedBy}
use Rattle.std.specs.Map.{keys_of, remove_entry}
use Rattle.std.specs.Ordering.{eq_by_cmp, match_ordering, ordering_then}
use Rattle.std.specs.String.{string_bytes, string_cmp}
use Rattle.std.specs.declared.string.String.{String}
use Rattle.cs_tree_model.specs.Laws.Nexts.{total}
use Rattle.cs_tree_model.specs.Maps.Texts.{by_bytes, get_seen, seen, seen_insert, seen_remove}
use Rattle.cs_tree_model.specs.Tree.{NameBytes, Path, name_cmp, path_cmp}
use Rattle.cs_names.specs.Legal.{IsLegalName}
use Rattle.cs_start.specs.Siblings.{HaveLegalNames, in_directory}
use Rattle.cs_start.specs.declared.entry.StartEntry.{StartEntry}
use Rattle.cs_start.proofs.InDirectory.{Named, whole}
use Rattle.cs_start.proofs.Views.{entries-keyed}

-- ---- a change of one name

module _ {Y X : Type 0} (m n : BTreeMap (String Y) X) (k : NameBytes) where
  pub find-inserted : (v : X) → UpdatesBy string_cmp (λ l. name_cmp k (string_bytes l)) m n (Some v) → (x : NameBytes)
      → find name_cmp x (by_bytes n.entries) ≡ cond (eq_by_cmp name_cmp x k) (Some v) (find name_cmp x (by_bytes m.entries))
  find-inserted v h x =
      sym (get-from_entries total (by_bytes n.entries) x)
      ∙ ap (λ l. get l x) (seen_insert m n k v h)
      ∙ get-insert total (seen m) k v x
      ∙ ap (cond (eq_by_cmp name_cmp x k) (Some v)) (get-from_entries total (by_bytes m.entries) x)

pub find-text : {Y X : Type 0} (m : BTreeMap (String Y) X) (k : NameBytes) → get_by_text m k ≡ find name_cmp k (by_bytes m.entries)
find-text m k = sym (get_seen m k) ∙ get-from_entries total (by_bytes m.entries) k

name_less : (c : Path) (n x : NameBytes) → name_cmp n x ≡ Less → path_cmp (c ++ n ∷ []) (c ++ x ∷ []) ≡ Less
name_less [] n x is = ap (λ o. ordering_then o Equal) is
name_less (y ∷ c) n x is =
    ap (λ o. ordering_then o (path_cmp (c ++ n ∷ []) (c ++ x ∷ []))) (tied_itself total y) ∙ name_less c n x is

-- ---- each name is legal

module _ {Y : Type 0} where
  pub names-insert : (k : String Y) (v : StartEntry) (es : List (String Y × StartEntry)) → IsLegalName (string_bytes k)
      → HaveLegalNames (by_bytes es) → HaveLegalNames (by_bytes (insert_entry string_cmp es k v))
  names-insert k v [] legal all = (legal, tt)
  names-insert k v (e ∷ es) legal all =
      elim (string_cmp k e.0)
      as (λ o. HaveLegalNames (by_bytes (match_ordering o ((k, v) ∷ e ∷ es) ((e.0, v) ∷ es) (e ∷ insert_entry string_cmp es k v)))) [
        | Less ↦ (legal, all)
        | Equal ↦ all
        | Greater ↦ (all.0, names-insert k v es legal all.1)
      ]

module _ {Y : Type 0} (d : Path) where
  -- ---- the entries in the order of paths

  all_less : (k : String Y) (es : List (String Y × StartEntry)) → AllByRecursion (λ l. string_cmp k l ≡ Less) (keys_of es)
      → AllByRecursion (λ l. path_cmp (d ++ string_bytes k ∷ []) l ≡ Less) (keys_of (in_directory d (by_bytes es)))
  all_less k [] all = tt
  all_less k (e ∷ es) all = (name_less d (string_bytes k) (string_bytes e.0) all.0, all_less k es all.1)

  sorted_paths : (es : List (String Y × StartEntry)) → IsStrictlySortedBy string_cmp (keys_of es)
      → IsStrictlySortedBy path_cmp (keys_of (in_directory d (by_bytes es)))
  unfolding IsStrictlySortedBy
  sorted_paths [] sorted = tt
  sorted_paths (e ∷ es) sorted = (all_less e.0 es sorted.0, sorted_paths es sorted.1)

  pub entries-whole : (es : List (String Y × StartEntry)) → IsStrictlySortedBy string_cmp (keys_of es)
      → entries (whole d (by_bytes es)) ≡ in_directory d (by_bytes es)
  entries-whole es sorted = entries-keyed (in_directory d (by_bytes es)) (sorted_paths es sorted)
