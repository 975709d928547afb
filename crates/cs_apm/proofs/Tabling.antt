-- The tables of a trace are an atlas of it.
use Rattle.std.proofs.Common.{◌≡◌, ℕ, ◌+◌, ◌*◌, ◌<◌, ◌≤◌, ◌++◌, Bool, List, [], ◌∷◌, Some, length, map, sym, ap, ◌∙◌, subst, arith, length-append, get_or}
use Rattle.std.proofs.lemmas.List.{get_or_default, length-map}
use Rattle.std.proofs.lemmas.List.FromFn.{length-map-range_with_len}
use Rattle.std.specs.FinMap.{entries, get, len, len-entries}
use Rattle.std.specs.List.{All, Contains, range_with_len}
use Rattle.std.specs.List.Sorted.{IsStrictlySortedBy}
use Rattle.std.specs.Prelude.{slice_get, slice_index_or}
use Rattle.cs_entries.specs.declared.entry.Entry.{Entry}
use Rattle.cs_entries.specs.declared.node.Node.{Node}
use Rattle.cs_entries.specs.Rules.{entries_touched}
use Rattle.cs_entries.specs.Legal.{IsTree}
use Rattle.cs_entries.specs.Tables.{held_in}
use Rattle.cs_tree_model.specs.Tree.{Path, path_cmp}
use Rattle.cs_start.specs.declared.rights.Rights.{Rights}
use Rattle.cs_trace.specs.Traces.{IsFileNumbered, IsPathOf, Trace, directory_count, start_paths, start_table}
use Rattle.cs_micro.specs.declared.micro_op.MicroOp.{MicroOp}
use Rattle.cs_micro.specs.Legal.{Made, entry_op}
use Rattle.cs_micro.specs.Micros.{AreLegalFromStart, Micros, micros_in}
use Rattle.cs_apm.specs.Atlases.{AreChanged, AreMakings, IsAtlas}
use Rattle.cs_apm.specs.Held.{HasAllTouched as HasAllHeld, Held, HoldsAll}
use Rattle.cs_apm.specs.Making.{FindsFiles, HasAllTouched}
use Rattle.cs_apm.specs.Rules.{op_at}
use Rattle.cs_apm.specs.Slots.{AreAscending, AreKnownSteps, AreSteps, Mirror, Slot}
use Rattle.cs_apm.specs.States.{directories_made, directories_of, directory_owner, directory_place, no_record, owner_at, owners_made, owners_of}
use Rattle.cs_apm.specs.States.{rights_of}
use Rattle.cs_apm.specs.declared.slot.Step.{Step}
use Rattle.cs_apm.specs.Laws.Small.{small_steps}
use Rattle.cs_apm.proofs.Assembling.{known_start, known_steps}
use Rattle.cs_apm.proofs.Holding.{entries_ascend, has_key, mirror_held}
use Rattle.cs_apm.proofs.Homing.{ascending_of}
use Rattle.cs_apm.proofs.Starting.{are_starts, directory_inside, inside, rights_from, start_owners}

-- the entries that are touched are among those of the map
pub touched_there : (h : Held) (es : List Entry) → es ≡ map (λ x. x.0) (entries h) → (ops : List MicroOp) (n : ℕ) → HasAllHeld h ops n
    → HasAllTouched es ops n
touched_there h es are ops n touched k low =
    λ i d inside. subst (λ v. Contains v (get_or (entries_touched (entry_op (op_at ops k))) i d)) (sym are)
    (has_key h (get_or (entries_touched (entry_op (op_at ops k))) i d) (touched k low i d inside))

-- the places of the records of files, and of directories, are places of records
pub starts_there : (t : Trace) → length t.nodes ≡ length t.records → IsStrictlySortedBy path_cmp (map (λ e. e.0) t.records)
    → ((n : ℕ) (p : Path) → slice_get t.files n ≡ Some p → IsFileNumbered n (get (start_paths t) p))
    → ((n : ℕ) (p : Path) → IsFileNumbered n (get (start_paths t) p) → IsPathOf t n p)
    → (starts : List ℕ) → length starts ≡ length t.files → FindsFiles t.nodes (length t.nodes) starts
    → All (λ place. place < length t.records) starts
starts_there t each sorted numbered found starts long finds k d low =
    subst (λ v. v < length t.records) (sym (get_or_default starts k d 0 low))
    (inside t each (ascending_of (map (λ e. e.0) t.records) sorted) numbered found starts long finds k low)

some_node : (ns : List Node) → 0 < directory_count ns → 0 < length ns
some_node [] some = some
some_node (x ∷ ns) some = omega arith

pub places_there : (t : Trace) → length t.nodes ≡ length t.records → (places : List ℕ) → length places ≡ directory_count t.nodes
    → ((d : ℕ) → d < directory_count t.nodes → slice_index_or places d 0 ≡ directory_place t.nodes d)
    → All (λ place. place < length t.records) places
places_there t each places long are k d low =
    let inside_count : k < directory_count t.nodes = subst (λ n. k < n) long low in
    subst (λ v. v < length t.records) (sym (get_or_default places k d 0 low ∙ are k inside_count))
    (subst (λ n. directory_place t.nodes k < n) each (directory_inside t.nodes k (some_node t.nodes (omega (arith, inside_count)))))

module _ (t : Trace) (m : Micros) (broken : m ≡ micros_in t) (legal : AreLegalFromStart t m) (tree : IsTree (held_in (start_table t)))
    (each : length t.nodes ≡ length t.records) (sorted : IsStrictlySortedBy path_cmp (map (λ e. e.0) t.records))
    (numbered : (n : ℕ) (p : Path) → slice_get t.files n ≡ Some p → IsFileNumbered n (get (start_paths t) p))
    (found : (n : ℕ) (p : Path) → IsFileNumbered n (get (start_paths t) p) → IsPathOf t n p)
    (starts : List ℕ) (long : length starts ≡ length t.files) (finds : FindsFiles t.nodes (length t.nodes) starts)
    (places : List ℕ) (places_long : length places ≡ directory_count t.nodes)
    (places_are : (d : ℕ) → d < directory_count t.nodes → slice_index_or places d 0 ≡ directory_place t.nodes d) where
  pub owners_are : (owners : List Rights)
      → owners ≡ map (λ place. rights_of (slice_index_or t.records place no_record).1) starts ++ owners_made m.ops
      → owners ≡ owners_of t m.ops
  owners_are owners is =
      is ∙ ap (λ os. os ++ owners_made m.ops)
      (start_owners t each (ascending_of (map (λ e. e.0) t.records) sorted) numbered found starts long finds)

  pub directories_are : (all : List Rights)
      → all ≡ map (λ place. rights_of (slice_index_or t.records place no_record).1) places ++ directories_made m.ops
      → all ≡ directories_of t m.ops
  directories_are all is =
      is ∙ ap (λ ds. ds ++ directories_made m.ops)
      (rights_from t.records t.nodes places (directory_count t.nodes) 0 places_long
      (λ n low. (let same : n ≡ 0 + n = omega arith in places_are n low ∙ ap (directory_place t.nodes) same)))

  pub is_atlas : (h : Held) → HoldsAll h (start_table t) → len h ≤ length t.records + 2 * length m.ops
      → (es : List Entry) → es ≡ map (λ x. x.0) (entries h) → (slots : List Slot) → slots ≡ map (λ x. x.1) (entries h)
      → (steps : List Step) → AreSteps es m.ops steps
      → (owners : List Rights) → owners ≡ map (λ place. rights_of (slice_index_or t.records place no_record).1) starts ++ owners_made m.ops
      → (all : List Rights) → all ≡ map (λ place. rights_of (slice_index_or t.records place no_record).1) places ++ directories_made m.ops
      → (makings : List ℕ) → AreMakings m.ops makings
      → (changed : List Bool) → AreChanged m.ops (length owners) changed
      → IsAtlas t m (record {
        entries = es;
        slots = slots;
        steps = steps;
        owners = owners;
        directories = all;
        starts = starts;
        makings = makings;
        changed = changed;
      })
  is_atlas h holds few es es_are slots slots_are steps are owners owned all ruled makings made changed flags =
      let up = subst AreAscending (sym es_are) (entries_ascend h) in
      let es_long : length es ≡ len h = ap length es_are ∙ length-map (entries h) (λ x. x.0) ∙ sym (len-entries h) in
      let slots_long : length slots ≡ length es =
      ap length slots_are ∙ length-map (entries h) (λ x. x.1) ∙ sym (length-map (entries h) (λ x. x.0)) ∙ sym (ap length es_are) in
      let mirror : Mirror es slots (start_table t) =
      subst (λ v. Mirror v slots (start_table t)) (sym es_are)
      (subst (λ v. Mirror (map (λ x. x.0) (entries h)) v (start_table t)) (sym slots_are) (mirror_held h (start_table t) holds)) in
      let own = owners_are owners owned in
      let by_number = directories_are all ruled in
      let homes = legal.homes in
      let many_files : length owners ≡ length t.files + length (owners_made m.ops) =
      ap length own ∙ length-append (map (owner_at t.records) t.files) (owners_made m.ops)
      ∙ ap (λ n. n + length (owners_made m.ops)) (length-map t.files (owner_at t.records)) in
      let many : length all ≡ length homes + length (directories_made m.ops) =
      ap length by_number
      ∙ length-append (map (directory_owner t) (range_with_len 0 (directory_count t.nodes))) (directories_made m.ops)
      ∙ ap (λ n. n + length (directories_made m.ops))
      (length-map-range_with_len (directory_owner t) 0 (directory_count t.nodes) ∙ sym legal.many) in
      let before : Made = record { entries = start_table t; files = length t.files; homes = homes } in
      record {
        version = ap (λ v. v.version) broken;
        ascending = up;
        few = omega (arith, few, es_long);
        long = slots_long;
        start = mirror;
        steps = are;
        known = known_start t homes legal.are found es slots up slots_long mirror (length all) (length owners)
            (omega (arith, many)) (omega (arith, many_files));
        known_steps =
            subst (λ d. AreKnownSteps (length slots) d (length owners) steps) (sym many)
            (subst (λ f. AreKnownSteps (length slots) (length homes + length (directories_made m.ops)) f steps) (sym many_files)
            (known_steps t.version before m.ops legal.legal legal.are es (length slots) steps slots_long are));
        owners = own;
        directories = by_number;
        starts = are_starts t each (ascending_of (map (λ e. e.0) t.records) sorted) numbered found starts long finds;
        makings = made;
        changed = subst (λ n. AreChanged m.ops n changed) (ap length own) flags;
        tree = tree;
        legal = legal;
        small = small_steps t.version before m.ops legal.legal;
      }
