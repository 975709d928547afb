-- What the maps of all directories have, as one table.
use Rattle.std.proofs.Common.{◌≡◌, ◌≢◌, ◌<◌, ℕ, zero, suc, ◌+◌, ◌==◌, ◌||◌, Bool, true, false, cond, List, [], ◌∷◌, ◌++◌, Option, None, Some}
use Rattle.std.proofs.Common.{refl, sym, ap, ◌∙◌, arith, ⊎_elim, add-zero, inl, inr}
use Rattle.std.proofs.lemmas.Bool.{eq-eqb, false≢true, ne_eqb}
use Rattle.std.proofs.lemmas.Map.Text.{is_eq-slice_cmp}
use Rattle.std.specs.Cmp.{tied_itself}
use Rattle.std.specs.FinMap as map
use Rattle.std.specs.FinMap.{find, get-from_entries, same_map}
use Rattle.std.specs.HashMap.{HashMap, get_by_text}
use Rattle.std.specs.List.{list_any}
use Rattle.std.specs.Map.{lookup}
use Rattle.std.specs.Option.{is_some, option_or}
use Rattle.std.specs.Ordering.{eq_by_cmp, is_eq}
use Rattle.std.specs.Prelude.{option_and_then, slice_get}
use Rattle.std.specs.Str.{bytes_eq}
use Rattle.std.specs.String.{string_bytes}
use Rattle.std.specs.declared.string.String.{String}
use Rattle.cs_tree_model.specs.Laws.Nexts.{exact, total}
use Rattle.cs_tree_model.specs.Maps.Changes.{get-insert_same, get-insert_other, get-remove_same, get-remove_other, key_cases}
use Rattle.cs_tree_model.specs.Maps.Texts.{by_bytes}
use Rattle.cs_tree_model.specs.Tree.{NameBytes, name_cmp}
use Rattle.cs_entries.specs.declared.node.Node.{Node}
use Rattle.cs_entries.specs.Directories.{entries_from, entries_in, table_by, with_directory}
use Rattle.cs_entries.specs.Entries.{Entry, entry_eq, put}
use Rattle.cs_entries.specs.Laws.Listed.{In}
use Rattle.cs_entries.specs.Laws.One.{entry_cases, put_here, put_other}
use Rattle.cs_entries.specs.Laws.Records.{entry_exact, entry_total, in_table, table_in}
use Rattle.cs_entries.specs.Legal.{HasEntry, IsEmpty}
use Rattle.cs_entries.specs.Paths.{entry_in}
use Rattle.cs_entries.specs.Tables.{Table, entry_cmp, has_entries, held_in}

abbrev Held : Type 0
Held = List (Entry × Node)

-- ---- a table in parts

find_append : (q : Entry) (es fs : Held) → find entry_cmp q (es ++ fs) ≡ option_or (find entry_cmp q es) (find entry_cmp q fs)
find_append q [] fs = refl
find_append q (e ∷ es) fs =
    elim (eq_by_cmp entry_cmp q e.0)
    as (λ b. cond b (Some e.1) (find entry_cmp q (es ++ fs)) ≡ option_or (cond b (Some e.1) (find entry_cmp q es)) (find entry_cmp q fs)) [
      | true ↦ refl
      | false ↦ find_append q es fs
    ]

or_none : (o : Option Node) → option_or o None ≡ o
or_none None = refl
or_none (Some x) = refl

apart_keys : (d k : ℕ) (name other : NameBytes) → d ≢ k → eq_by_cmp entry_cmp (entry_in d name) (entry_in k other) ≡ false
apart_keys d k name other apart = ⊎_elim
    (λ (h : (eq_by_cmp entry_cmp (entry_in d name) (entry_in k other) ≡ true) × (entry_in d name ≡ entry_in k other)).
    absurd (apart (ap (λ (e : Entry). e.directory) h.1)))
    (λ (h : (eq_by_cmp entry_cmp (entry_in d name) (entry_in k other) ≡ false) × (entry_in d name ≢ entry_in k other)). h.0)
    (key_cases entry_total entry_exact (entry_in d name) (entry_in k other))

find_apart : (d k : ℕ) (name : NameBytes) (xs : List (NameBytes × Node)) → d ≢ k
    → find entry_cmp (entry_in d name) (with_directory k xs) ≡ None
find_apart d k name [] apart = refl
find_apart d k name (x ∷ xs) apart =
    ap (λ b. cond b (Some x.1) (find entry_cmp (entry_in d name) (with_directory k xs))) (apart_keys d k name x.0 apart)
    ∙ find_apart d k name xs apart

same_keys : (d : ℕ) (name other : NameBytes) → eq_by_cmp entry_cmp (entry_in d name) (entry_in d other) ≡ eq_by_cmp name_cmp name other
same_keys d name other = ⊎_elim
    (λ (h : (eq_by_cmp name_cmp name other ≡ true) × (name ≡ other)).
    ap (λ n. eq_by_cmp entry_cmp (entry_in d name) (entry_in d n)) (sym h.1) ∙ itself (entry_in d name) ∙ sym h.0)
    (λ (h : (eq_by_cmp name_cmp name other ≡ false) × (name ≢ other)). ⊎_elim
    (λ (g : (eq_by_cmp entry_cmp (entry_in d name) (entry_in d other) ≡ true) × (entry_in d name ≡ entry_in d other)).
    absurd (h.1 (ap (λ (e : Entry). e.name) g.1)))
    (λ (g : (eq_by_cmp entry_cmp (entry_in d name) (entry_in d other) ≡ false) × (entry_in d name ≢ entry_in d other)). g.0 ∙ sym h.0)
    (key_cases entry_total entry_exact (entry_in d name) (entry_in d other)))
    (key_cases total exact name other)
  where
    itself : (e : Entry) → eq_by_cmp entry_cmp e e ≡ true
    itself e = ap is_eq (tied_itself entry_total e)

find_here : (d : ℕ) (name : NameBytes) (xs : List (NameBytes × Node))
    → find entry_cmp (entry_in d name) (with_directory d xs) ≡ find name_cmp name xs
find_here d name [] = refl
find_here d name (x ∷ xs) = λ i. cond (same_keys d name x.0 i) (Some x.1) (find_here d name xs i)

-- a name is found by its order as by its bytes
find_text : {Y : Type 0} (name : NameBytes) (es : List (String Y × Node))
    → find name_cmp name (by_bytes es) ≡ lookup (λ k. bytes_eq name (string_bytes k)) es
find_text name [] = refl
find_text name (e ∷ es) = λ i. cond (is_eq-slice_cmp name (string_bytes e.0) i) (Some e.1) (find_text name es i)

-- ---- one change

get_insert : (t : Table) (e : Entry) (node : Node) (q : Entry) → map.get (map.insert t e node) q ≡ put (held_in t) e (Some node) q
get_insert t e node q = ⊎_elim
    (λ (h : (entry_eq e q ≡ true) × (e ≡ q)).
    ap (map.get (map.insert t e node)) (sym h.1) ∙ get-insert_same entry_total entry_exact t e node
    ∙ sym (put_here (held_in t) e (Some node)) ∙ ap (put (held_in t) e (Some node)) h.1)
    (λ (h : (entry_eq e q ≡ false) × (e ≢ q)).
    get-insert_other entry_total entry_exact t q e node (λ s. h.1 (sym s))
    ∙ sym (put_other (held_in t) e q (Some node) h.1))
    (entry_cases e q)

get_remove : (t : Table) (e q : Entry) → map.get (map.remove t e) q ≡ put (held_in t) e None q
get_remove t e q = ⊎_elim
    (λ (h : (entry_eq e q ≡ true) × (e ≡ q)).
    ap (map.get (map.remove t e)) (sym h.1) ∙ get-remove_same entry_total entry_exact t e
    ∙ sym (put_here (held_in t) e None) ∙ ap (put (held_in t) e None) h.1)
    (λ (h : (entry_eq e q ≡ false) × (e ≢ q)).
    get-remove_other entry_total entry_exact t q e (λ s. h.1 (sym s))
    ∙ sym (put_other (held_in t) e q None h.1))
    (entry_cases e q)

-- ---- a test of each entry

none_any : (f : Entry × Node → Bool) (es : Held) → ((e : Entry) (node : Node) → In (e, node) es → f (e, node) ≡ false)
    → list_any f es ≡ false
none_any f [] none = refl
none_any f (e ∷ es) none =
    ap (λ b. b || list_any f es) (none e.0 e.1 (inl refl))
    ∙ none_any f es (λ q node inside. none q node (inr inside))

some_any : (f : Entry × Node → Bool) (es : Held) (e : Entry) (node : Node) → In (e, node) es → f (e, node) ≡ true
    → list_any f es ≡ true
some_any f [] e node inside is = absurd inside
some_any f (x ∷ es) e node inside is = ⊎_elim
    (λ (here : ◌≡◌ {A = Entry × Node} (e, node) x). ap (λ b. b || list_any f es) (ap f (sym here) ∙ is))
    (λ (later : In (e, node) es). either_way (f x) (list_any f es) (some_any f es e node later is))
    inside
  where
    either_way : (a b : Bool) → b ≡ true → a || b ≡ true
    either_way true b h = refl
    either_way false b h = h

pub table_empty : (Y S : Type 0) → table_by {Y = Y} {S = S} [] ≡ map.empty
unfolding table_by
table_empty Y S = refl

module _ {Y S : Type 0} where
  find_past : (d k : ℕ) (name : NameBytes) (ds : List (HashMap (String Y) Node S)) → k < d
      → find entry_cmp (entry_in k name) (entries_from d ds) ≡ None
  find_past d k name [] low = refl
  find_past d k name (m ∷ ms) low =
      find_append (entry_in k name) (with_directory d (by_bytes m.entries)) (entries_from (d + 1) ms)
      ∙ ap (λ o. option_or o (find entry_cmp (entry_in k name) (entries_from (d + 1) ms)))
      (find_apart k d name (by_bytes m.entries) (λ same. omega (arith, low, same)))
      ∙ find_past (d + 1) k name ms (omega (arith, low))

  found : (d k : ℕ) (name : NameBytes) (ds : List (HashMap (String Y) Node S)) → find entry_cmp (entry_in (d + k) name) (entries_from d ds)
      ≡ option_and_then (λ (m : HashMap (String Y) Node S). get_by_text m name) (slice_get ds k)
  found d k name [] = refl
  found d zero name (m ∷ ms) =
      ap (λ n. find entry_cmp (entry_in n name) (entries_from d (m ∷ ms))) (add-zero d)
      ∙ find_append (entry_in d name) (with_directory d (by_bytes m.entries)) (entries_from (d + 1) ms)
      ∙ (λ i. option_or (find_here d name (by_bytes m.entries) i) (find_past (d + 1) d name ms (omega arith) i))
      ∙ or_none (find name_cmp name (by_bytes m.entries))
      ∙ find_text name m.entries
  found d (suc k) name (m ∷ ms) =
      (let next : d + suc k ≡ (d + 1) + k = omega arith in
      let apart : d + suc k ≢ d = λ same. omega (arith, same) in
      find_append (entry_in (d + suc k) name) (with_directory d (by_bytes m.entries)) (entries_from (d + 1) ms)
      ∙ ap (λ o. option_or o (find entry_cmp (entry_in (d + suc k) name) (entries_from (d + 1) ms)))
      (find_apart (d + suc k) d name (by_bytes m.entries) apart)
      ∙ ap (λ n. find entry_cmp (entry_in n name) (entries_from (d + 1) ms)) next
      ∙ found (d + 1) k name ms)

  -- at each entry the table has what the map of its directory has
  pub get_table : (ds : List (HashMap (String Y) Node S)) (e : Entry) → map.get (table_by ds) e ≡ entries_in ds e
  unfolding table_by
  get_table ds e =
      (let none : 0 + e.directory ≡ e.directory = omega arith in
      get-from_entries entry_total (entries_from 0 ds) e
      ∙ ap (λ d. find entry_cmp (entry_in d e.name) (entries_from 0 ds)) (sym none)
      ∙ found 0 e.directory e.name ds)

  pub held_table : (ds : List (HashMap (String Y) Node S)) → held_in (table_by ds) ≡ entries_in ds
  held_table ds = λ i e. get_table ds e i

  pub same_tables : (ds es : List (HashMap (String Y) Node S)) → ((e : Entry) → entries_in ds e ≡ entries_in es e)
      → table_by ds ≡ table_by es
  same_tables ds es same =
      same_map entry_total entry_exact _ _ (λ e. get_table ds e ∙ same e ∙ sym (get_table es e))

  pub table_insert : (ds es : List (HashMap (String Y) Node S)) (e : Entry) (node : Node)
      → ((q : Entry) → entries_in ds q ≡ put (entries_in es) e (Some node) q)
      → table_by ds ≡ map.insert (table_by es) e node
  table_insert ds es e node is = same_map entry_total entry_exact _ _ (λ q.
      get_table ds q ∙ is q
      ∙ ap (cond (entry_eq e q) (Some node)) (sym (get_table es q)) ∙ sym (get_insert (table_by es) e node q))

  pub table_remove : (ds es : List (HashMap (String Y) Node S)) (e : Entry)
      → ((q : Entry) → entries_in ds q ≡ put (entries_in es) e None q) → table_by ds ≡ map.remove (table_by es) e
  table_remove ds es e is = same_map entry_total entry_exact _ _ (λ q.
      get_table ds q ∙ is q
      ∙ ap (cond (entry_eq e q) None) (sym (get_table es q)) ∙ sym (get_remove (table_by es) e q))

  -- ---- whether a directory has an entry

  pub no_entries : (ds : List (HashMap (String Y) Node S)) (d : ℕ) → IsEmpty (entries_in ds) d → has_entries (table_by ds) d ≡ false
  no_entries ds d none =
      none_any (λ x. x.0.directory == d) (map.entries (table_by ds)) (λ e node inside. elsewhere e node inside)
    where
      elsewhere : (e : Entry) (node : Node) → In (e, node) (map.entries (table_by ds)) → e.directory == d ≡ false
      elsewhere e node inside = ne_eqb e.directory d (λ same.
          false≢true (ap is_some (sym (none e same) ∙ sym (get_table ds e) ∙ in_table (table_by ds) e node inside)))

  pub some_entry : (ds : List (HashMap (String Y) Node S)) (d : ℕ) → HasEntry (entries_in ds) d → has_entries (table_by ds) d ≡ true
  some_entry ds d h =
      some_any (λ x. x.0.directory == d) (map.entries (table_by ds)) h.0 h.1
      (table_in (table_by ds) h.0 h.1 (get_table ds h.0 ∙ h.3)) (eq-eqb h.0.directory d h.2)

  pub has_by : (ds : List (HashMap (String Y) Node S)) (d : ℕ) (b : Bool) → (b ≡ false → IsEmpty (entries_in ds) d)
      → (b ≡ true → HasEntry (entries_in ds) d) → b ≡ has_entries (table_by ds) d
  has_by ds d true none some = sym (some_entry ds d (some refl))
  has_by ds d false none some = sym (no_entries ds d (none refl))
