-- Each start line that is accepted leaves a sound state.
use Rattle.std.proofs.Common.{◌≡◌, ◌≢◌, ◌⊎◌, ℕ, zero, suc, ◌+◌, ◌<◌, ◌≤◌, ◌==◌, Bool, true, false, cond, List, [], ◌∷◌, ◌++◌, length, map}
use Rattle.std.proofs.Common.{Option, None, Some, option_map, refl, sym, ap, ◌∙◌, subst, arith, ⊎_elim, inl, inr, length-append}
use Rattle.std.proofs.lemmas.Bool.{cases_lt, false≢true}
use Rattle.std.proofs.lemmas.List.{length-map, map-append}
use Rattle.std.proofs.lemmas.Option.{same_Some}
use Rattle.std.specs.FinMap.{FinMap, entries, entries-insert, find, get, get-entries, get-insert, insert, len, len-insert, put, same_map}
use Rattle.std.specs.FinMap.Entries.{by_order}
use Rattle.std.specs.List.{slice_get, sum_by}
use Rattle.std.specs.Option.{is_some}
use Rattle.std.specs.Ordering.{eq_by_cmp, is_eq}
use Rattle.std.specs.Prelude.{filter, if◌then◌else◌}
use Rattle.std.specs.declared.cmp.Ordering.{Ordering}
use Rattle.std.specs.declared.cmp.Ordering.TheVariants.{Less, Equal, Greater}
use Rattle.cs_start.specs.Entries.{StartEntries, nodes_in, size_of}
use Rattle.cs_start.specs.declared.entry.StartEntry.{StartEntry}
use Rattle.cs_entries.specs.declared.node.FileKind.{FileKind}
use Rattle.cs_entries.specs.declared.node.Node.{Node}
use Rattle.cs_tree_model.specs.Laws.Paths.{path_cases, path_exact, path_total}
use Rattle.cs_tree_model.specs.Maps.Changes.{get-insert_same, get-insert_other}
use Rattle.cs_tree_model.specs.Maps.Values.{get-map_values, map_values}
use Rattle.cs_tree_model.specs.Tree.{Path, path_cmp}
use Rattle.cs_entries.specs.DirEntries.{root_home}
use Rattle.cs_entries.specs.declared.entry.Entry.{Entry}
use Rattle.cs_entries.specs.Laws.Records.{entry_exact, entry_total}
use Rattle.cs_entries.specs.Legal.{IsNew}
use Rattle.cs_entries.specs.Paths.{at_path, entry_in}
use Rattle.cs_entries.specs.Tables.{Table, held_in}
use Rattle.cs_entries.specs.declared.node.Node.TheVariants.{Directory, File}
use Rattle.cs_trace.specs.Operations.{FileSystem, number_for, place_of, system_after_all}
use Rattle.cs_trace.specs.State.{State}
use Rattle.cs_trace.specs.Traces.{directory_count, is_directory}
use Rattle.cs_trace_lines.specs.Versions.{is_fourth}
use Rattle.cs_trace.proofs.Homed.{place_within}
use Rattle.cs_trace.proofs.Sound.{IsNow, IsSound, IsStart, sizes_of, start_of, system_of}
use Rattle.cs_trace.proofs.StartPuts.{agree_now, free_entry}
use Rattle.cs_trace.proofs.Taken.{place_at}

abbrev pub node_of : StartEntry → Node
node_of e = e.node

-- ---- one entry more, by path

pub map_values-insert : (m : StartEntries) (p : Path) (e : StartEntry)
    → map_values node_of (insert m p e) ≡ insert (map_values node_of m) p e.node
map_values-insert m p e = same_map path_total path_exact _ _ (λ q. ⊎_elim
    (λ (one : (eq_by_cmp path_cmp q p ≡ true) × (q ≡ p)).
    get-map_values path_cmp node_of (insert m p e) q ∙ ap (λ o. option_map node_of o)
    (get-insert path_total m p e q ∙ ap (λ b. cond b (Some e) (get m q)) one.0)
    ∙ sym (get-insert path_total (map_values node_of m) p e.node q
    ∙ ap (λ b. cond b (Some e.node) (get (map_values {R = path_cmp} node_of m) q)) one.0))
    (λ (two : (eq_by_cmp path_cmp q p ≡ false) × (q ≢ p)).
    get-map_values path_cmp node_of (insert m p e) q ∙ ap (λ o. option_map node_of o)
    (get-insert path_total m p e q ∙ ap (λ b. cond b (Some e) (get m q)) two.0)
    ∙ sym (get-insert path_total (map_values node_of m) p e.node q
    ∙ ap (λ b. cond b (Some e.node) (get (map_values {R = path_cmp} node_of m) q)) two.0 ∙ get-map_values path_cmp node_of m q))
    (path_cases q p))

-- what holds of the new value and of each old one holds of each
pub each_of : {X : Type 0} (m : FinMap path_cmp X) (p : Path) (v : X) (P : Path → X → Type 0) → P p v
    → ((q : Path) (w : X) → q ≢ p → get m q ≡ Some w → P q w) → (q : Path) (w : X) → get (insert m p v) q ≡ Some w → P q w
each_of m p v P new old q w found = ⊎_elim
    (λ (one : (eq_by_cmp path_cmp q p ≡ true) × (q ≡ p)).
    let here : Some v ≡ Some w = sym (get-insert_same path_total path_exact m p v) ∙ ap (get (insert m p v)) (sym one.1) ∙ found in
    subst (λ x. P x w) (sym one.1) (subst (λ x. P p x) (same_Some v w here) new))
    (λ (two : (eq_by_cmp path_cmp q p ≡ false) × (q ≢ p)). old q w two.1
    (sym (get-insert_other path_total path_exact m q p v two.1) ∙ found))
    (path_cases q p)

-- two functions that agree on what is in a list
pub map_same : {X Y : Type 0} (f g : X → Y) (xs : List X) → ((n : ℕ) (x : X) → slice_get xs n ≡ Some x → f x ≡ g x) → map f xs ≡ map g xs
map_same f g [] same = refl
map_same f g (x ∷ xs) same = λ i. same 0 x refl i ∷ map_same f g xs (λ n y is. same (suc n) y is) i

-- ---- how many directories there are

abbrev Listed : Type 0
Listed = List (Path × StartEntry)

pub one_if : Bool → ℕ
one_if b = if b then 1 else 0

count_of : Listed → ℕ
count_of es = directory_count (map (λ e. e.1.node) es)

first_count : (node : Node) (nodes : List Node) → directory_count (node ∷ nodes) ≡ one_if (is_directory node) + directory_count nodes
unfolding one_if
first_count node nodes = by (is_directory node)
  where
    by : (b : Bool) → length (if b then node ∷ filter is_directory nodes else filter is_directory nodes)
        ≡ (if b then 1 else 0) + length (filter is_directory nodes)
    by true = omega arith
    by false = omega arith

none_chosen : (b : Bool) (v : StartEntry) (o : Option StartEntry) → cond b (Some v) o ≡ None → (b ≡ false) × (o ≡ None)
none_chosen true v o is = absurd (cc)
none_chosen false v o is = (refl, is)

count_put : (p : Path) (e : StartEntry) (es : Listed) → find path_cmp p es ≡ None
    → count_of (put path_cmp p e es) ≡ one_if (is_directory e.node) + count_of es
unfolding count_of
count_put p e [] none = first_count e.node []
count_put p e (f ∷ es) none =
    let parts = none_chosen (is_eq (path_cmp p f.0)) f.1 (find path_cmp p es) none in
    elim (path_cmp p f.0)
    as (λ o. path_cmp p f.0 ≡ o
    → count_of (by_order o ((p, e) ∷ f ∷ es) ((f.0, e) ∷ es) (f ∷ put path_cmp p e es))
    ≡ one_if (is_directory e.node) + count_of (f ∷ es)) [
      | Less ↦ λ is. first_count e.node (map (λ g. g.1.node) (f ∷ es))
      | Equal ↦ λ is. absurd (false≢true (sym parts.0 ∙ ap is_eq is))
      | Greater ↦ λ is.
          (let rest = count_put p e es parts.1 in
          let here = first_count f.1.node (map (λ g. g.1.node) (put path_cmp p e es)) in
          let there = first_count f.1.node (map (λ g. g.1.node) es) in
          omega (arith, rest, here, there))
    ] refl

pub count_insert : (m : StartEntries) (p : Path) (e : StartEntry) → get m p ≡ None
    → directory_count (nodes_in (insert m p e)) ≡ one_if (is_directory e.node) + directory_count (nodes_in m)
unfolding count_of
count_insert m p e none =
    ap (λ es. directory_count (map (λ f. f.1.node) es)) (entries-insert path_total m p e)
    ∙ count_put p e (entries m) (sym (get-entries m p) ∙ none)

pub count_file : (m : StartEntries) (p : Path) (e : StartEntry) → get m p ≡ None → (kind : FileKind) (file : ℕ) → e.node ≡ File kind file
    → directory_count (nodes_in (insert m p e)) ≡ directory_count (nodes_in m)
unfolding one_if
count_file m p e none kind file is =
    count_insert m p e none ∙ ap (λ node. one_if (is_directory node) + directory_count (nodes_in m)) is
    ∙ zero_more (directory_count (nodes_in m))
  where
    zero_more : (n : ℕ) → 0 + n ≡ n
    zero_more n = omega arith

pub count_directory : (m : StartEntries) (p : Path) (e : StartEntry) → get m p ≡ None → (d : ℕ) → e.node ≡ Directory d
    → directory_count (nodes_in (insert m p e)) ≡ directory_count (nodes_in m) + 1
unfolding one_if
count_directory m p e none d is =
    count_insert m p e none ∙ ap (λ node. one_if (is_directory node) + directory_count (nodes_in m)) is
    ∙ one_more (directory_count (nodes_in m))
  where
    one_more : (n : ℕ) → 1 + n ≡ n + 1
    one_more n = omega arith

-- ---- before the first operation

-- what is sound of the start, by the system as it is now
pub record IsBegun (s : State) : Type 0 where
  pub start : IsStart s s.system.entries s.system.homes
  pub now : IsNow s.version s.system
  pub sizes : s.system.sizes ≡ sizes_of s

module _ (s : State) (sound : IsSound s) (made : s.made ≢ 0) (none : s.operations ≡ []) where
  same_system : s.system ≡ system_of s sound.initial sound.homes
  same_system = sound.system ∙ ap (system_after_all (system_of s sound.initial sound.homes)) none

  pub begun : IsBegun s
  begun = record {
    start =
        subst (λ t. IsStart s t s.system.homes) (sym (ap (λ (fs : FileSystem). fs.entries) same_system))
        (subst (IsStart s sound.initial) (sym (ap (λ (fs : FileSystem). fs.homes) same_system)) (sound.start made));
    now = sound.now made;
    sizes = ap (λ (fs : FileSystem). fs.sizes) same_system;
  }

-- ---- the next number of a directory

module _ (s : State) (begun : IsBegun s) (e : Entry) (named : e.name ≢ []) (free : get s.system.entries e ≡ None) where
  abbrev homes : List Entry
  homes = s.system.homes

  nothing : (node : Node) → None ≡ Some node → ⊥
  nothing node h = cc

  root_name : Some e ≡ Some root_home → e.name ≡ []
  root_name h = ap (λ (f : Entry). f.name) (same_Some e root_home h)

  not_there : place_of e homes < length homes → ⊥
  not_there low = ⊎_elim
      (λ (root : place_of e homes ≡ 0).
      named (root_name (sym (place_at e homes low) ∙ ap (slice_get homes) root ∙ begun.start.at_home.root)))
      (λ (held : get s.system.entries e ≡ Some (Directory (place_of e homes))). nothing (Directory (place_of e homes)) (sym free ∙ held))
      (begun.start.stay (place_of e homes) e (place_at e homes low))

  next_by : (fourth : Bool) → (if fourth then length homes else place_of e homes) ≡ length homes
  next_by true = refl
  next_by false = ⊎_elim
      (λ (low : place_of e homes < length homes). absurd (not_there low))
      (λ (high : length homes ≤ place_of e homes). omega (arith, high, place_within e homes))
      (cases_lt (place_of e homes) (length homes))

  -- a directory that a start line makes has the next number
  pub next_number : number_for s.version homes e ≡ length homes
  next_number = next_by (is_fourth s.version)

-- ---- one entry more

module _ (s : State) (sound : IsSound s) (begun : IsBegun s) (none : s.operations ≡ []) (front : Path) (name : List ℕ) (c : ℕ)
    (above : at_path (held_in s.system.entries) front ≡ Some (Directory c))
    (free : at_path (held_in s.system.entries) (front ++ name ∷ []) ≡ None) (f : StartEntry)
    (new : IsNew (held_in s.system.entries) f.node) where
  abbrev t : Table
  t = s.system.entries

  abbrev p : Path
  p = front ++ name ∷ []

  abbrev e : Entry
  e = entry_in c name

  abbrev after_entries : Table
  after_entries = insert t e f.node

  pub free_path : get (start_of s) p ≡ None
  free_path = sym (begun.start.agree p) ∙ free

  pub free_start : get s.start p ≡ None
  free_start = by (get s.start p) refl
    where
      by : (o : Option StartEntry) → get s.start p ≡ o → get s.start p ≡ None
      by None is = is
      by (Some g) is = absurd (nothing g (sym free_path ∙ get-map_values path_cmp node_of s.start p ∙ ap (option_map node_of) is))
        where
          nothing : (g : StartEntry) → None ≡ Some g.node → ⊥
          nothing g h = cc

  abbrev start_next : StartEntries
  start_next = insert s.start p f

  pub agree_next : (q : Path) → at_path (held_in after_entries) q ≡ get (map_values node_of start_next) q
  agree_next q =
      agree_now t begun.start.tree front name c above free f.node new (start_of s) begun.start.agree q
      ∙ ap (λ m. get m q) (sym (map_values-insert s.start p f))
