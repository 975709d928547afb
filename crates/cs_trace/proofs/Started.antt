-- What the records at the start are, one by one.
use Rattle.std.proofs.Common.{◌≡◌, ◌≢◌, ℕ, zero, suc, ◌+◌, ◌≤◌, Bool, true, false, cond, T, List, [], ◌∷◌, map, ⊎_elim, Option, None, Some}
use Rattle.std.proofs.Common.{option_map, refl, sym, ap, ◌∙◌, subst, arith}
use Rattle.std.proofs.lemmas.Bool.{false≢true}
use Rattle.std.proofs.lemmas.Option.{slice_get-map, same_Some}
use Rattle.std.specs.Cmp.{tied_itself}
use Rattle.std.specs.FinMap.{entries, entries_sorted, find, get, get-entries, is_sorted}
use Rattle.std.specs.FinMap.Entries.{below_all}
use Rattle.std.specs.List.{AllByRecursion, slice_get}
use Rattle.std.specs.List.Sorted.{IsStrictlySortedBy}
use Rattle.std.specs.Option.{option_map_or}
use Rattle.std.specs.Ordering.{eq_by_cmp, is_lt}
use Rattle.std.specs.declared.cmp.Ordering.{Ordering}
use Rattle.std.specs.declared.cmp.Ordering.TheVariants.{Less, Equal, Greater}
use Rattle.cs_tree_model.specs.Fresh.{fresh_record, with_numbers_from}
use Rattle.cs_tree_model.specs.Laws.Paths.{path_cases, path_total}
use Rattle.cs_tree_model.specs.Tree.{Path, path_cmp}
use Rattle.cs_tree_model.specs.declared.record.Record.{Record}
use Rattle.cs_tree_model.specs.Maps.Orders.{both_first, both_second, less_of}
use Rattle.cs_start.specs.Entries.{StartEntries, record_of, size_of}
use Rattle.cs_trace.specs.Traces.{IsNodeOf, IsRecordOf, IsUnchanged, StandsAs}
use Rattle.cs_start.specs.declared.entry.StartEntry.{StartEntry}
use Rattle.cs_entries.specs.declared.node.Node.{Node}
use Rattle.cs_entries.specs.declared.node.Node.TheVariants.{Directory, File}

-- ---- in the order of their paths

abbrev pub numbered_from : ℕ → List (Path × StartEntry) → List (Path × Record)
numbered_from k es = with_numbers_from k (map (λ e. (e.0, record_of e.1)) es)

keys_below : (p : Path) (k : ℕ) (es : List (Path × StartEntry)) → T (below_all path_cmp p es)
    → AllByRecursion (λ q. path_cmp p q ≡ Less) (map (λ e. e.0) (numbered_from k es))
keys_below p k [] all = tt
keys_below p k (e ∷ es) all = (less_of _ (both_first _ _ all), keys_below p (k + 1) es (both_second _ _ all))

pub keys_ascend : (k : ℕ) (es : List (Path × StartEntry)) → T (is_sorted path_cmp es)
    → IsStrictlySortedBy path_cmp (map (λ e. e.0) (numbered_from k es))
unfolding IsStrictlySortedBy
keys_ascend k [] sorted = tt
keys_ascend k (e ∷ es) sorted = (keys_below e.0 (k + 1) es (both_first _ _ sorted), keys_ascend (k + 1) es (both_second _ _ sorted))

-- ---- by their places

less_at : (p : Path) (es : List (Path × StartEntry)) (n : ℕ) (e : Path × StartEntry) → T (below_all path_cmp p es) → slice_get es n ≡ Some e
    → path_cmp p e.0 ≡ Less
less_at p [] n e all at = absurd (cc)
less_at p (f ∷ es) zero e all at =
    ap (λ (g : Path × StartEntry). path_cmp p g.0) (sym (same_Some f e at)) ∙ less_of _ (both_first _ _ all)
less_at p (f ∷ es) (suc n) e all at = less_at p es n e (both_second _ _ all) at

equal_less : Equal ≢ Less
equal_less is = false≢true (ap is_lt is)

-- the entry at a place is found by its path
found_at : (es : List (Path × StartEntry)) → T (is_sorted path_cmp es) → (n : ℕ) (e : Path × StartEntry) → slice_get es n ≡ Some e
    → find path_cmp e.0 es ≡ Some e.1
found_at [] sorted n e at = absurd (cc)
found_at (f ∷ es) sorted zero e at =
    let same : f ≡ e = same_Some f e at in
    ap (λ (g : Path × StartEntry). find path_cmp g.0 (f ∷ es)) (sym same)
    ∙ ap (λ o. cond (is_tied o) (Some f.1) (find path_cmp f.0 es)) (tied_itself path_total f.0)
    ∙ ap (λ (g : Path × StartEntry). Some g.1) same
  where
    is_tied : Ordering → Bool
    is_tied Less = false
    is_tied Equal = true
    is_tied Greater = false
found_at (f ∷ es) sorted (suc n) e at =
    let low = less_at f.0 es n e (both_first _ _ sorted) at in
    ⊎_elim
    (λ (one : (eq_by_cmp path_cmp e.0 f.0 ≡ true) × (e.0 ≡ f.0)). absurd
    (equal_less (sym (tied_itself path_total f.0) ∙ ap (path_cmp f.0) (sym one.1) ∙ low)))
    (λ (two : (eq_by_cmp path_cmp e.0 f.0 ≡ false) × (e.0 ≢ f.0)). ap (λ b. cond b (Some f.1) (find path_cmp e.0 es)) two.0
    ∙ found_at es (both_second _ _ sorted) n e at)
    (path_cases e.0 f.0)

pub get_at : (m : StartEntries) (n : ℕ) (e : Path × StartEntry) → slice_get (entries m) n ≡ Some e → get m e.0 ≡ Some e.1
get_at m n e at = get-entries m e.0 ∙ found_at (entries m) (entries_sorted m) n e at

-- the record at a place is a fresh one of the entry there
pub record Numbers (k n : ℕ) (es : List (Path × StartEntry)) (r : Path × Record) : Type 0 where
  pub entry : Path × StartEntry
  pub at : slice_get es n ≡ Some entry
  pub is : r ≡ (entry.0, fresh_record (k + n) (record_of entry.1))

one_later : (k n : ℕ) → k + 1 + n ≡ k + suc n
one_later k n = omega arith

pub numbers : (k n : ℕ) (es : List (Path × StartEntry)) (r : Path × Record) → slice_get (numbered_from k es) n ≡ Some r → Numbers k n es r
numbers k n [] r at = absurd (cc)
numbers k zero (e ∷ es) r at =
    let none : k ≡ k + 0 = omega arith in
    record { entry = e; at = refl; is = sym (same_Some _ r at) ∙ ap (λ i. (e.0, fresh_record i (record_of e.1))) none }
numbers k (suc n) (e ∷ es) r at =
    let rest = numbers (k + 1) n es r at in
    record {
      entry = rest.entry;
      at = rest.at;
      is = rest.is ∙ ap (λ i. (rest.entry.0, fresh_record i (record_of rest.entry.1)))
          (one_later k n);
    }

-- ---- what they are

-- a directory has no bytes, and a file or a symbolic link has some, or none yet
abbrev pub FitsNode : Node → Option (List ℕ) → Type 0
FitsNode (Directory d) content = content ≡ None
FitsNode (File kind file) content = (bytes : List ℕ) × (content ≡ Some bytes)

unchanged_by : (n : ℕ) (e : StartEntry) (r : Record) → e.rights.permissions ≤ 511 → r ≡ fresh_record n (record_of e)
    → IsUnchanged n e.node r
unchanged_by n e r low is =
    subst (IsUnchanged n e.node) (sym is) (record { fresh = refl; permissions = e.rights.permissions; octal = low; mode = refl })

kind_by : (node : Node) (content : Option (List ℕ)) (r : Record) → FitsNode node content → r.content ≡ content → IsNodeOf node r
kind_by (Directory d) content r fits is = is ∙ fits
kind_by (File kind file) content r fits is = (fits.0, is ∙ fits.1)

module _ (m : StartEntries) (octal : (p : Path) (e : StartEntry) → get m p ≡ Some e → e.rights.permissions ≤ 511)
    (kinds : (p : Path) (e : StartEntry) → get m p ≡ Some e → FitsNode e.node e.content) where
  node_at_place : (n : ℕ) (node : Node) (e : Path × StartEntry) → slice_get (map (λ f. f.1.node) (entries m)) n ≡ Some node
      → slice_get (entries m) n ≡ Some e → e.1.node ≡ node
  node_at_place n node e at there =
      let same : option_map (λ (f : Path × StartEntry). f.1.node) (slice_get (entries m) n) ≡ Some node =
      sym (slice_get-map (λ f. f.1.node) (entries m) n) ∙ at in
      same_Some e.1.node node (sym (ap (option_map (λ (f : Path × StartEntry). f.1.node)) there) ∙ same)

  pub record_at_place : (n : ℕ) (node : Node) (r : Path × Record) → slice_get (map (λ f. f.1.node) (entries m)) n ≡ Some node
      → slice_get (numbered_from 0 (entries m)) n ≡ Some r → IsRecordOf n node r.1
  record_at_place n node r at beside =
      let there = numbers 0 n (entries m) r beside in
      let e = there.entry in
      let found = get_at m n e there.at in
      let same = node_at_place n node e at there.at in
      let zero_more : 0 + n ≡ n = omega arith in
      let is = ap (λ (x : Path × Record). x.1) there.is ∙ ap (λ i. fresh_record i (record_of e.1)) zero_more in
      subst (λ w. IsRecordOf n w r.1) same (record {
        unchanged = unchanged_by n e.1 r.1 (octal e.0 e.1 found) is;
        kind = kind_by e.1.node e.1.content r.1 (kinds e.0 e.1 found) (ap (λ (x : Record). x.content) is);
      })

pub stands_by : (n : ℕ) (o : Option StartEntry) → ((e : StartEntry) → o ≡ Some e → FitsNode e.node e.content)
    → StandsAs (option_map (λ e. e.node) o) (option_map (fresh_record n) (option_map record_of o))
stands_by n None kinds = tt
stands_by n (Some e) kinds = kind_by e.node e.content (fresh_record n (record_of e)) (kinds e refl) refl

pub small_by : (most : ℕ) (o : Option StartEntry) → ((e : StartEntry) → o ≡ Some e → size_of e.content ≤ most)
    → option_map_or (λ e. size_of e.content) o 0 ≤ most
small_by most None small = omega arith
small_by most (Some e) small = small e refl
