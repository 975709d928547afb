-- What is read of the fresh tree, by the table of numbers.
use Rattle.std.proofs.Common.{◌≡◌, ◌+◌, ◌<◌, ℕ, List, [], ◌∷◌, ◌++◌, map, Option, None, Some, IsSome, refl, sym, ap, ◌∙◌, subst, arith}
use Rattle.std.proofs.Common.{length, slice_get, take, drop}
use Rattle.std.proofs.lemmas.Bool.{false≢true}
use Rattle.std.proofs.lemmas.List.{length-map}
use Rattle.std.specs.FinMap.{get, entries, entries_sorted, get-entries, len, len-entries}
use Rattle.std.specs.List as list
use Rattle.std.specs.List.{filter_map}
use Rattle.std.specs.Option.{option_map, option_and_then, is_some}
use Rattle.cs_tree_model.specs.declared.record.MetadataBuf.{MetadataBuf}
use Rattle.cs_tree_model.specs.declared.record.Record.{Record}
use Rattle.cs_tree_model.specs.Effects.{after_prefix, comes_after, entry_after, single}
use Rattle.cs_tree_model.specs.Fresh.{fresh, fresh_record, with_numbers_from, place_in}
use Rattle.cs_tree_model.specs.Nexts.{entry_below, next_name, IsEntryBelow}
use Rattle.cs_tree_model.specs.Record.{metadata_of}
use Rattle.cs_tree_model.specs.Tree.{NameBytes, Path, Tree, IsTree, bytes_at, content_numbered, last_name, name_numbered, number_at}
use Rattle.cs_tree_model.specs.Tree.{number_in, parent_numbered, parent_path, path_numbered, record_numbered}
use Rattle.cs_tree_model.specs.Laws.FreshReads.{count-fresh, entries-fresh, next-fresh, number_at-fresh, path_numbered-fresh}
use Rattle.cs_tree_model.specs.Laws.FreshReads.{record_numbered-fresh}
use Rattle.cs_tree_model.specs.Laws.Nexts.{entry_holds}
use Rattle.cs_tree_model.specs.Laws.Round.{numbered_in}
use Rattle.cs_frozen.specs.Numbers.{entry_number, fresh_metadata, numbers_of, IsNumbered}
use Rattle.cs_frozen.proofs.Fresh.{fresh_is_tree}
use Rattle.cs_frozen.proofs.Places.{Entry, found_nth, nth_found, nth_numbers, within}

pub fresh_none : (n : ℕ) (o : Option Record) → None ≡ option_map metadata_of o
    → None ≡ option_map metadata_of (option_map (fresh_record n) o)
fresh_none n None e = refl
fresh_none n (Some r) e = absurd (false≢true (ap is_some e))

pub fresh_some : (n : ℕ) (m : MetadataBuf) (o : Option Record) → Some m ≡ option_map metadata_of o
    → Some (fresh_metadata n m) ≡ option_map metadata_of (option_map (fresh_record n) o)
fresh_some n m None e = absurd (false≢true (sym (ap is_some e)))
fresh_some n m (Some r) e = ap (option_map (fresh_metadata n)) e

-- a name that was given is one of the directory's
pub name_there : (t : Tree) (d : ℕ) (last bound : Option NameBytes) (x : NameBytes) → Some x ≡ entry_below bound (next_name t d last)
    → number_in t d x ≡ None → ⊥
name_there t d last bound x e none =
    false≢true
    (sym (ap is_some none) ∙ (subst (IsEntryBelow (λ y. IsSome (number_in t d y)) last bound) (sym e) (entry_holds t d last bound)).there.0)

same_paths : (k : ℕ) (es : List Entry) → map (λ e. e.0) (with_numbers_from k es) ≡ map (λ e. e.0) es
same_paths k [] = refl
same_paths k (e ∷ es) = ap (λ l. e.0 ∷ l) (same_paths (k + 1) es)

abbrev path_in : Entry → Path
path_in e = e.0

abbrev record_in : Entry → Record
record_in e = e.1

-- ---- a read by a fresh number is the tree's read by its number

module _ (t : Tree) (h : IsTree t) (n : ℕ) where
  abbrev own : Option ℕ
  own = slice_get (numbers_of t.files) n

  by_entry : (o : Option Entry) → slice_get (entries t.files) n ≡ o
      → (option_map record_in o ≡ option_and_then (record_numbered t) (option_map entry_number o))
      × (option_map path_in o ≡ option_and_then (path_numbered t) (option_map entry_number o))
  by_entry None e = (refl, refl)
  by_entry (Some e) is =
      let there = numbered_in t h e.0 e.1 (get-entries t.files e.0 ∙ nth_found n (entries t.files) (entries_sorted t.files) e is) in
      (sym there.1, sym there.0)

  record_fresh : record_numbered (fresh t.files) n ≡ option_map (fresh_record n) (option_and_then (record_numbered t) own)
  record_fresh = record_numbered-fresh t.files n ∙ by (slice_get (entries t.files) n)
      ∙ ap (option_map (fresh_record n))
      ((by_entry (slice_get (entries t.files) n) refl).0 ∙ ap (option_and_then (record_numbered t))
      (sym (nth_numbers n (entries t.files))))
    where
      by : (o : Option Entry) → option_map (λ e. fresh_record n e.1) o ≡ option_map (fresh_record n) (option_map record_in o)
      by None = refl
      by (Some e) = refl

  path_fresh : path_numbered (fresh t.files) n ≡ option_and_then (path_numbered t) own
  path_fresh =
      path_numbered-fresh t.files n ∙ (by_entry (slice_get (entries t.files) n) refl).1 ∙ ap (option_and_then (path_numbered t))
      (sym (nth_numbers n (entries t.files)))

  content_fresh : content_numbered (fresh t.files) n ≡ option_and_then (content_numbered t) own
  content_fresh = ap (option_and_then (λ (r : Record). r.content)) record_fresh ∙ by own
    where
      at : (w : Option Record)
          → option_and_then (λ (r : Record). r.content) (option_map (fresh_record n) w) ≡ option_and_then (λ (r : Record). r.content) w
      at None = refl
      at (Some r) = refl

      by : (o : Option ℕ)
          → option_and_then (λ (r : Record). r.content) (option_map (fresh_record n) (option_and_then (record_numbered t) o))
          ≡ option_and_then (content_numbered t) o
      by None = refl
      by (Some m) = at (record_numbered t m)

  name_fresh : name_numbered (fresh t.files) n ≡ option_and_then (name_numbered t) own
  name_fresh = ap (option_and_then last_name) path_fresh ∙ by own
    where
      by : (o : Option ℕ) → option_and_then last_name (option_and_then (path_numbered t) o) ≡ option_and_then (name_numbered t) o
      by None = refl
      by (Some m) = refl

  next_fresh : (last : Option NameBytes) → next_name (fresh t.files) n last ≡ option_and_then (λ m. next_name t m last) own
  next_fresh last = ap (option_and_then (λ p. entry_after (fresh t.files) p last)) path_fresh ∙ by own
    where
      at : (w : Option Path) → option_and_then (λ p. entry_after (fresh t.files) p last) w ≡ option_and_then (λ p. entry_after t p last) w
      at None = refl
      at (Some p) =
          ap (λ ks. list.find (comes_after last) (filter_map (λ q. option_and_then single (after_prefix p q)) ks))
          (ap (map path_in) (entries-fresh t.files) ∙ same_paths 0 (entries t.files))

      by : (o : Option ℕ)
          → option_and_then (λ p. entry_after (fresh t.files) p last) (option_and_then (path_numbered t) o)
          ≡ option_and_then (λ m. next_name t m last) o
      by None = refl
      by (Some m) = at (path_numbered t m)

-- ---- the table has a found file's fresh number at the tree's number

module _ (t : Tree) (numbers places : List ℕ) (h : IsNumbered t numbers places) where
  abbrev place : ℕ → Option ℕ
  place = slice_get places

  number_fresh : (p : Path) → number_at (fresh t.files) p ≡ option_and_then place (number_at t p)
  number_fresh p = number_at-fresh t.files p ∙ by (get t.files p) refl
    where
      by : (o : Option Record) → get t.files p ≡ o
          → option_map (λ (_ : Record). place_in p (entries t.files)) (get t.files p)
          ≡ option_and_then place (option_map (λ (r : Record). r.number) (get t.files p))
      by None e =
          ap (option_map (λ (_ : Record). place_in p (entries t.files))) e ∙ sym
          (ap (λ w. option_and_then place (option_map (λ (r : Record). r.number) w)) e)
      by (Some r) e = ap (option_map (λ (_ : Record). place_in p (entries t.files))) e
          ∙ sym (h.place (place_in p (entries t.files)) (p, r) (found_nth p r (entries t.files) (sym (get-entries t.files p) ∙ e)))
          ∙ sym (ap (λ w. option_and_then place (option_map (λ (r : Record). r.number) w)) e)

  number_in_fresh : (d : ℕ) (x : NameBytes)
      → number_in (fresh t.files) d x ≡ option_and_then place (option_and_then (λ m. number_in t m x) (slice_get (numbers_of t.files) d))
  number_in_fresh d x =
      ap (option_and_then (λ p. number_at (fresh t.files) (p ++ x ∷ []))) (path_fresh t h.tree d) ∙ by (slice_get (numbers_of t.files) d)
    where
      at : (w : Option Path)
          → option_and_then (λ p. number_at (fresh t.files) (p ++ x ∷ [])) w
          ≡ option_and_then place (option_and_then (λ p. number_at t (p ++ x ∷ [])) w)
      at None = refl
      at (Some p) = number_fresh (p ++ x ∷ [])

      by : (o : Option ℕ)
          → option_and_then (λ p. number_at (fresh t.files) (p ++ x ∷ [])) (option_and_then (path_numbered t) o)
          ≡ option_and_then place (option_and_then (λ m. number_in t m x) o)
      by None = refl
      by (Some m) = at (path_numbered t m)

  parent_fresh : (n : ℕ)
      → parent_numbered (fresh t.files) n ≡ option_and_then place (option_and_then (parent_numbered t) (slice_get (numbers_of t.files) n))
  parent_fresh n =
      ap (option_and_then (λ p. number_at (fresh t.files) (parent_path p))) (path_fresh t h.tree n) ∙ by (slice_get (numbers_of t.files) n)
    where
      at : (w : Option Path)
          → option_and_then (λ p. number_at (fresh t.files) (parent_path p)) w
          ≡ option_and_then place (option_and_then (λ p. number_at t (parent_path p)) w)
      at None = refl
      at (Some p) = number_fresh (parent_path p)

      by : (o : Option ℕ)
          → option_and_then (λ p. number_at (fresh t.files) (parent_path p)) (option_and_then (path_numbered t) o)
          ≡ option_and_then place (option_and_then (parent_numbered t) o)
      by None = refl
      by (Some m) = at (path_numbered t m)

  module _ (whole : Tree) (view : fresh t.files ≡ whole) where
    pub is_tree_fresh : IsTree whole
    is_tree_fresh = subst IsTree view (fresh_is_tree t h.tree)

    pub count_is : length numbers ≡ len whole.files
    count_is =
        ap length h.own ∙ length-map (entries t.files) entry_number ∙ sym (len-entries t.files) ∙ sym (count-fresh t.files) ∙ ap
        (λ v. len v.files) view

    pub next_is : whole.next ≡ length numbers
    next_is =
        ap (λ v. v.next) (sym view) ∙ next-fresh t.files ∙ len-entries t.files ∙ sym (length-map (entries t.files) entry_number) ∙ sym
        (ap length h.own)

    -- the root is in the table
    pub not_empty : 0 < length numbers
    not_empty =
        let root = h.tree.root in
        let place = found_nth [] root.0 (entries t.files) (sym (get-entries t.files []) ∙ root.1) in
        let lt = within (entries t.files) _ _ place in
        let same : length numbers ≡ length (entries t.files) = ap length h.own ∙ length-map (entries t.files) entry_number in
        omega (arith, lt, same)

    module _ (ns : List ℕ) (same : ns ≡ numbers) where
      at : (n : ℕ) → slice_get ns n ≡ slice_get (numbers_of t.files) n
      at n = ap (λ l. slice_get l n) (same ∙ h.own)

      pub record_is : (n : ℕ) (o : Option ℕ) → o ≡ slice_get ns n
          → option_map metadata_of (option_map (fresh_record n) (option_and_then (record_numbered t) o))
          ≡ option_map metadata_of (record_numbered whole n)
      record_is n o is =
          ap (λ w. option_map metadata_of (option_map (fresh_record n) (option_and_then (record_numbered t) w))) (is ∙ at n) ∙ ap
          (option_map metadata_of) (sym (record_fresh t h.tree n) ∙ ap (λ v. record_numbered v n) view)

      pub find_is : (d : ℕ) (x : NameBytes) (o : Option ℕ) → o ≡ slice_get ns d
          → option_and_then (slice_get places) (option_and_then (λ m. number_in t m x) o) ≡ number_in whole d x
      find_is d x o is =
          ap (λ w. option_and_then place (option_and_then (λ m. number_in t m x) w)) (is ∙ at d) ∙ sym (number_in_fresh d x) ∙ ap
          (λ v. number_in v d x) view

      pub parent_is : (n : ℕ) (o : Option ℕ) → o ≡ slice_get ns n
          → option_and_then (slice_get places) (option_and_then (parent_numbered t) o) ≡ parent_numbered whole n
      parent_is n o is =
          ap (λ w. option_and_then place (option_and_then (parent_numbered t) w)) (is ∙ at n) ∙ sym (parent_fresh n) ∙ ap
          (λ v. parent_numbered v n) view

      pub name_is : (n : ℕ) (o : Option ℕ) → o ≡ slice_get ns n → option_and_then (name_numbered t) o ≡ name_numbered whole n
      name_is n o is = ap (option_and_then (name_numbered t)) (is ∙ at n) ∙ sym (name_fresh t h.tree n) ∙ ap (λ v. name_numbered v n) view

      pub bytes_is : (n offset count : ℕ) (o : Option ℕ) → o ≡ slice_get ns n
          → option_map (λ b. take count (drop offset b)) (option_and_then (content_numbered t) o) ≡ bytes_at whole n offset count
      bytes_is n offset count o is =
          ap (option_map (λ b. take count (drop offset b)))
          (ap (option_and_then (content_numbered t)) (is ∙ at n) ∙ sym (content_fresh t h.tree n) ∙ ap (λ v. content_numbered v n) view)

      pub entry_is : (n : ℕ) (last bound : Option NameBytes) (o : Option ℕ) → o ≡ slice_get ns n
          → entry_below bound (option_and_then (λ m. next_name t m last) o) ≡ entry_below bound (next_name whole n last)
      entry_is n last bound o is =
          ap (entry_below bound)
          (ap (option_and_then (λ m. next_name t m last)) (is ∙ at n) ∙ sym (next_fresh t h.tree n last) ∙ ap (λ v. next_name v n last)
          view)
