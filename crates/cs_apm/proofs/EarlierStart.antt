-- The start of a trace by paths and by entries, before version 4.
use Rattle.std.proofs.Common.{◌≡◌, ◌≢◌, ℕ, zero, suc, ◌+◌, ◌-◌, ◌<◌, ◌≤◌, Bool, true, false, cond, List, [], ◌∷◌, ◌++◌, ◌⊎◌, Option, Some}
use Rattle.std.proofs.Common.{refl, sym, ap, ◌∙◌, subst, arith, length, length-append, map, get_or, unwrap_or, ⊎_elim}
use Rattle.std.proofs.lemmas.Bool.{cases_Bool, cases_lt, eq-eqb, eqb-true, false≢true}
use Rattle.std.proofs.lemmas.List.{get_or_append_left, length-map}
use Rattle.std.proofs.lemmas.List.FromFn.{get_or-map-range_with_len, length-map-range_with_len}
use Rattle.std.proofs.lemmas.Option.{slice_get_within}
use Rattle.std.specs.FinMap.{find, from_entries, get, get-from_entries}
use Rattle.std.specs.List.{position_from, range_with_len, zip}
use Rattle.std.specs.Option.{option_map}
use Rattle.std.specs.Ordering.{eq_by_cmp, is_eq}
use Rattle.std.specs.declared.cmp.Ordering.TheVariants.{Less}
use Rattle.cs_tree_model.specs.declared.record.Record.{Record}
use Rattle.cs_tree_model.specs.Laws.Paths.{path_exact, path_total}
use Rattle.cs_tree_model.specs.Tree.{Path, path_cmp}
use Rattle.cs_entries.specs.declared.entry.Entry.{Entry}
use Rattle.cs_entries.specs.declared.node.Node.{Node}
use Rattle.cs_entries.specs.declared.node.Node.TheVariants.{Directory, File}
use Rattle.cs_entries.specs.DirEntries.{root_home}
use Rattle.cs_entries.specs.Legal.{IsTree}
use Rattle.cs_entries.specs.Paths.{at_path}
use Rattle.cs_entries.specs.Tables.{held_in}
use Rattle.cs_entries.specs.Laws.Paths.{one_path}
use Rattle.cs_start.specs.declared.rights.Rights.{Rights}
use Rattle.cs_trace.specs.Earlier.Same.{node_before, trace_before}
use Rattle.cs_trace.specs.Traces.{AreHomes, Trace, directory_count, start_paths, start_table}
use Rattle.cs_apm.specs.Rules.{is_directory_numbered}
use Rattle.cs_apm.specs.Slots.{AreAscendingBy}
use Rattle.cs_apm.specs.States.{directory_owner, directory_place, no_record, no_rights, rights_of}
use Rattle.cs_apm.specs.Earlier.States as before
use Rattle.cs_apm.specs.Laws.Ascents.{ascends}
use Rattle.cs_apm.proofs.EarlierStates.{AreAlike, entry_before, held_or_root}
use Rattle.cs_apm.proofs.Homing.{find_zip, itself}
use Rattle.cs_apm.proofs.Starting.{named_at, names_length}

map_over : {A B : Type 0} (f : A → B) (b : Bool) (x y : Option A) → option_map f (cond b x y) ≡ cond b (option_map f x) (option_map f y)
map_over f true x y = refl
map_over f false x y = refl

-- what was kept with each record
entries_alike : (all : List Rights) (q : Path) (rs : List (Path × Record)) (ns : List Node)
    → ((k d : ℕ) → k < length rs → k < length ns → get_or ns k (Directory 0) ≡ Directory d
    → rights_of (get_or rs k no_record).1 ≡ get_or all d no_rights)
    → find path_cmp q (map (λ x. (x.0.0, before.start_entry x.1 x.0.1)) (zip rs (map node_before ns)))
    ≡ option_map (entry_before all) (find path_cmp q (zip (map (λ e. e.0) rs) ns))
entries_alike all q [] ns same = refl
entries_alike all q (r ∷ rs) [] same = refl
entries_alike all q (r ∷ rs) (x ∷ ns) same =
    (λ i. cond (eq_by_cmp path_cmp q r.0) (Some (one x refl i))
    (entries_alike all q rs ns (λ k d low high is. same (suc k) d (omega (arith, low)) (omega (arith, high)) is) i))
    ∙ sym (map_over (entry_before all) (eq_by_cmp path_cmp q r.0) (Some x) (find path_cmp q (zip (map (λ e. e.0) rs) ns)))
  where
    one : (y : Node) → x ≡ y → before.start_entry (node_before y) r.1 ≡ entry_before all y
    one (Directory d) is = ap before.Directory (same 0 d (omega arith) (omega arith) is)
    one (File kind file) is = refl

-- the first place of a directory is one where it is
record IsFirstPlace (ns : List Node) (d from i : ℕ) : Type 0 where
  place : ℕ
  low : place ≤ i
  first : position_from (is_directory_numbered d) from ns ≡ Some (from + place)
  is : get_or ns place (Directory 0) ≡ Directory d

directory_is : (d : ℕ) (y : Node) → is_directory_numbered d y ≡ true → y ≡ Directory d
directory_is d (Directory c) t = ap Directory (eqb-true c d t)
directory_is d (File kind file) t = absurd (false≢true t)

place_here : (x : Node) (ns : List Node) (d from i : ℕ) → is_directory_numbered d x ≡ true → IsFirstPlace (x ∷ ns) d from i
place_here x ns d from i t =
    let sum : from ≡ from + 0 = omega arith in
    record {
      place = 0;
      low = omega arith;
      first = ap (λ b. cond b (Some from) (position_from (is_directory_numbered d) (from + 1) ns)) t ∙ ap Some sum;
      is = directory_is d x t;
    }

place_later : (x : Node) (ns : List Node) (d from i : ℕ) → is_directory_numbered d x ≡ false → IsFirstPlace ns d (from + 1) i
    → IsFirstPlace (x ∷ ns) d from (suc i)
place_later x ns d from i t w =
    let below = w.low in
    let sum : from + 1 + w.place ≡ from + suc w.place = omega arith in
    record {
      place = suc w.place;
      low = omega (arith, below);
      first = ap (λ b. cond b (Some from) (position_from (is_directory_numbered d) (from + 1) ns)) t ∙ w.first ∙ ap Some sum;
      is = w.is;
    }

place_found : (ns : List Node) (d from i : ℕ) → i < length ns → get_or ns i (Directory 0) ≡ Directory d → IsFirstPlace ns d from i
place_found [] d from i low is = absurd (omega (arith, low))
place_found (x ∷ ns) d from zero low is =
    place_here x ns d from 0 (ap (is_directory_numbered d) is ∙ eq-eqb d d refl)
place_found (x ∷ ns) d from (suc i) low is = ⊎_elim
    (λ (yes : is_directory_numbered d x ≡ true). place_here x ns d from (suc i) yes)
    (λ (no : is_directory_numbered d x ≡ false). place_later x ns d from i no (place_found ns d (from + 1) i (omega (arith, low)) is))
    (cases_Bool (is_directory_numbered d x))

module _ (t : Trace) (homes : List Entry) (are : AreHomes (start_table t) homes) (many : length homes ≡ directory_count t.nodes)
    (each : length t.nodes ≡ length t.records) (up : AreAscendingBy path_cmp (map (λ e. e.0) t.records))
    (tree : IsTree (held_in (start_table t))) (leads : (p : Path) → at_path (held_in (start_table t)) p ≡ get (start_paths t) p)
    (made : List Rights) where
  abbrev all : List Rights
  all = map (directory_owner t) (range_with_len 0 (directory_count t.nodes)) ++ made

  path_of : ℕ → Path
  path_of k = (get_or t.records k no_record).0

  -- the path of a record leads to its node
  leads_to : (k : ℕ) → k < length t.records → at_path (held_in (start_table t)) (path_of k) ≡ Some (get_or t.nodes k (Directory 0))
  unfolding path_of
  leads_to k low =
      leads (path_of k)
      ∙ get-from_entries path_total (zip (map (λ e. e.0) t.records) t.nodes) (path_of k)
      ∙ ap (λ q. find path_cmp q (zip (map (λ e. e.0) t.records) t.nodes)) (sym (named_at t.records k low))
      ∙ find_zip (map (λ e. e.0) t.records) t.nodes k (Directory 0) up
      (subst (λ n. k < n) (sym (names_length t.records)) low) (each ∙ sym (names_length t.records))

  -- a directory is at one place
  one_place : (i j d : ℕ) → i < length t.records → j < i → get_or t.nodes i (Directory 0) ≡ Directory d
      → get_or t.nodes j (Directory 0) ≡ Directory d → ⊥
  unfolding path_of
  one_place i j d low less at_i at_j =
      let j_low : j < length t.records = omega (arith, low, less) in
      let p = leads_to i low ∙ ap Some at_i in
      let q = leads_to j j_low ∙ ap Some at_j in
      let same : path_of j ≡ path_of i = one_path (held_in (start_table t)) tree (length (path_of j)) (path_of j) (path_of i) d
      (omega arith) q p in
      let i_named = named_at t.records i low in
      let j_named = named_at t.records j j_low in
      let before_i : path_cmp (get_or (map (λ e. e.0) t.records) j []) (get_or (map (λ e. e.0) t.records) i []) ≡ Less =
      ascends path_total path_exact (map (λ e. e.0) t.records) [] up j i less (subst (λ n. i < n) (sym (names_length t.records)) low) in
      let turn : path_cmp (path_of i) (path_of i) ≡ Less =
      sym (ap (λ r. path_cmp r (path_of i)) (j_named ∙ same)) ∙ sym (ap (path_cmp (get_or (map (λ e. e.0) t.records) j [])) i_named)
      ∙ before_i in
      false≢true (sym (ap is_eq turn) ∙ itself (path_of i))

  low_at_start : (d : ℕ) (p : Path) → at_path (held_in (start_table t)) p ≡ Some (Directory d) → d < directory_count t.nodes
  low_at_start d p at = ⊎_elim
      (λ (root : d ≡ 0). (let some = slice_get_within homes 0 root_home are.root in omega (arith, root, some, many)))
      (λ (w : (e : Entry) × (held_in (start_table t) e ≡ Some (Directory d))).
      (let low = slice_get_within homes d w.0 (are.each w.0 d w.1) in omega (arith, low, many)))
      (held_or_root (held_in (start_table t)) p d at)

  rights_at : (k d : ℕ) → k < length t.records → k < length t.nodes → get_or t.nodes k (Directory 0) ≡ Directory d
      → rights_of (get_or t.records k no_record).1 ≡ get_or all d no_rights
  rights_at k d low high is =
      let w = place_found t.nodes d 0 k high is in
      let le = w.low in
      let place : directory_place t.nodes d ≡ w.place =
      (let e : 0 + w.place ≡ w.place = omega arith in ap (λ o. unwrap_or o 0) w.first ∙ e) in
      let own : w.place ≡ k = ⊎_elim
      (λ (less : w.place < k). absurd (one_place k w.place d low less is w.is))
      (λ (more : k ≤ w.place). omega (arith, le, more))
      (cases_lt w.place k) in
      let d_low = low_at_start d (path_of k) (leads_to k low ∙ ap Some is) in
      ap (λ i. rights_of (get_or t.records i no_record).1) (sym (place ∙ own))
      ∙ sym (get_or-map-range_with_len (directory_owner t) 0 (directory_count t.nodes) d d no_rights d_low (omega arith))
      ∙ sym (get_or_append_left (map (directory_owner t) (range_with_len 0 (directory_count t.nodes))) made no_rights d
      (let long = length-map-range_with_len (directory_owner t) 0 (directory_count t.nodes) in omega (arith, long, d_low)))

  pub start_alike : AreAlike all (held_in (start_table t)) (before.start_state (trace_before t)).paths
  start_alike p =
      get-from_entries path_total (map (λ x. (x.0.0, before.start_entry x.1 x.0.1)) (zip t.records (map node_before t.nodes))) p
      ∙ entries_alike all p t.records t.nodes rights_at
      ∙ ap (option_map (entry_before all))
      (sym (leads p ∙ get-from_entries path_total (zip (map (λ e. e.0) t.records) t.nodes) p))

  pub rights_long : directory_count t.nodes ≤ length all
  rights_long =
      let long = length-map-range_with_len (directory_owner t) 0 (directory_count t.nodes) in
      omega (arith, long, length-append (map (directory_owner t) (range_with_len 0 (directory_count t.nodes))) made)
