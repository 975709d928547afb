-- What is below a directory, entry by entry, and the map of what is at each path.
use Rattle.std.proofs.Common.{◌≡◌, ◌≢◌, ℕ, zero, suc, ◌+◌, ◌<◌, ◌≤◌, ◌==◌, true, false, cond, List, [], ◌∷◌, ◌++◌, None, Some, refl, sym}
use Rattle.std.proofs.Common.{ap, ◌∙◌, subst, arith, ⊎_elim, length, drop, get_or, append_assoc}
use Rattle.std.proofs.lemmas.Bool.{cases_lt, eq-eqb, false≢true, ne_eqb}
use Rattle.std.proofs.lemmas.List.{append-nil, drop_all}
use Rattle.std.specs.Cmp.{nat_cmp_is}
use Rattle.std.specs.FinMap.{FinMap, insert}
use Rattle.std.specs.List.{AllWithin, flat_map}
use Rattle.std.specs.List.Sorted.{IsNonDecreasingBy}
use Rattle.std.specs.Option.{option_map_or}
use Rattle.std.specs.Ordering.{is_gt, nat_cmp, ordering_then}
use Rattle.std.specs.Cmp.Lexicographic.{slice_cmp}
use Rattle.std.specs.declared.cmp.Ordering.TheVariants.{Less, Greater}
use Rattle.cs_entries.specs.declared.entry.Entry.{Entry}
use Rattle.cs_entries.specs.declared.node.FileKind.{FileKind}
use Rattle.cs_entries.specs.declared.node.Node.{Node}
use Rattle.cs_entries.specs.declared.node.Node.TheVariants.{Directory, File}
use Rattle.cs_entries.specs.DirEntries.{root_home}
use Rattle.cs_entries.specs.Tables.{below, below_if, entry_cmp, paths_in}
use Rattle.cs_entries.specs.Laws.Records.{entry_exact, entry_total}
use Rattle.cs_tree_model.specs.Tree.{Path, path_cmp}
use Rattle.cs_apm.specs.Laws.Ascents.{ascends}
use Rattle.cs_apm.specs.Laws.Mirrors.{entries-held}
use Rattle.cs_apm.specs.Slots.{AreAscending, Slot, entry_at, held_in_slots, slot_at, table_of_slots}
use Rattle.cs_apm.specs.Walks.{pairs_in}

-- ---- the entries of one directory

pub directory_le : (e f : Entry) → entry_cmp e f ≡ Less → e.directory ≤ f.directory
directory_le e f less = ⊎_elim
    (λ (gt : f.directory < e.directory).
    (let is = nat_cmp_is e.directory f.directory Greater gt in
    absurd (false≢true (sym (ap is_gt (ap (λ o. ordering_then o (slice_cmp nat_cmp e.name f.name)) is ∙ less))))))
    (λ (le : e.directory ≤ f.directory). le)
    (cases_lt f.directory e.directory)

pub directories_rise : (es : List Entry) → AreAscending es → IsNonDecreasingBy (λ (e : Entry). e.directory) es
directories_rise es up i j d le low = ⊎_elim
    (λ (lt : i < j). directory_le (get_or es i d) (get_or es j d) (ascends entry_total entry_exact es d up i j lt low))
    (λ (ge : j ≤ i).
    (let same : i ≡ j = omega (arith, le, ge) in
    subst (λ k. (get_or es i d).directory ≤ (get_or es k d).directory) same (omega arith)))
    (cases_lt i j)

-- ---- what is in the slots from a place on

held_step : (es : List Entry) (ss : List Slot) (i : ℕ) → i < length es → length ss ≡ length es
    → held_in_slots (drop i es) (drop i ss)
    ≡ option_map_or (λ node. (entry_at es i, node) ∷ held_in_slots (drop (i + 1) es) (drop (i + 1) ss)) (slot_at ss i)
    (held_in_slots (drop (i + 1) es) (drop (i + 1) ss))
held_step [] ss i low long = absurd (omega (arith, low))
held_step (e ∷ es) [] i low long = absurd (omega (arith, long))
held_step (e ∷ es) (s ∷ ss) zero low long = refl
held_step (e ∷ es) (s ∷ ss) (suc i) low long =
    let same : suc i + 1 ≡ suc (i + 1) = omega arith in
    held_step es ss i (omega (arith, low)) (omega (arith, long))
    ∙ sym (ap (λ k. option_map_or (λ node. (entry_at es i, node) ∷ held_in_slots (drop k (e ∷ es)) (drop k (s ∷ ss))) (slot_at ss i)
    (held_in_slots (drop k (e ∷ es)) (drop k (s ∷ ss)))) same)

abbrev pub Found : Type 0
Found = List (Path × Node)

module _ (es : List Entry) (ss : List Slot) (n : ℕ) (path : Path) (d : ℕ) where
  abbrev pub one : Entry × Node → Found
  one = below_if (below (held_in_slots es ss) n) path d

  -- what is below the directory by the entries from a place on
  abbrev pub rest : ℕ → Found
  rest i = flat_map one (held_in_slots (drop i es) (drop i ss))

  pub none_behind : (i : ℕ) → length es ≤ i → rest i ≡ []
  none_behind i high = ap (λ v. flat_map one (held_in_slots v (drop i ss))) (drop_all i es high)

  module _ (long : length ss ≡ length es) where
    pub empty_slot : (i : ℕ) → i < length es → slot_at ss i ≡ None → rest i ≡ rest (i + 1)
    empty_slot i low is =
        ap (flat_map one) (held_step es ss i low long
        ∙ ap (λ o. option_map_or (λ node. (entry_at es i, node) ∷ held_in_slots (drop (i + 1) es) (drop (i + 1) ss)) o
        (held_in_slots (drop (i + 1) es) (drop (i + 1) ss))) is)

    pub full_slot : (i : ℕ) (node : Node) → i < length es → slot_at ss i ≡ Some node → rest i ≡ one (entry_at es i, node) ++ rest (i + 1)
    full_slot i node low is =
        ap (flat_map one) (held_step es ss i low long
        ∙ ap (λ o. option_map_or (λ x. (entry_at es i, x) ∷ held_in_slots (drop (i + 1) es) (drop (i + 1) ss)) o
        (held_in_slots (drop (i + 1) es) (drop (i + 1) ss))) is)

    other : (i : ℕ) → i < length es → (entry_at es i).directory ≢ d → rest i ≡ rest (i + 1)
    other i low ne = by (slot_at ss i) refl
      where
        by : (s : Slot) → slot_at ss i ≡ s → rest i ≡ rest (i + 1)
        by None is = empty_slot i low is
        by (Some (File kind file)) is =
            full_slot i (File kind file) low is
            ∙ ap (λ b. cond b ((path ++ (entry_at es i).name ∷ [], File kind file) ∷ []) [] ++ rest (i + 1))
            (ne_eqb (entry_at es i).directory d ne)
        by (Some (Directory c)) is =
            full_slot i (Directory c) low is
            ∙ ap (λ b. cond b
            ((path ++ (entry_at es i).name ∷ [], Directory c) ∷ below (held_in_slots es ss) n (path ++ (entry_at es i).name ∷ []) c) []
            ++ rest (i + 1))
            (ne_eqb (entry_at es i).directory d ne)

    -- no entry from one place to the other is of the directory
    pub skipped : (count i : ℕ) → i + count ≤ length es → AllWithin (λ (e : Entry). e.directory ≢ d) es i (i + count)
        → rest i ≡ rest (i + count)
    skipped zero i low none = (let same : i ≡ i + 0 = omega arith in ap rest same)
    skipped (suc count) i low none =
        other i (omega (arith, low)) (none i root_home (omega arith) (omega arith))
        ∙ skipped count (i + 1) (omega (arith, low))
        (λ k e from to. none k e (omega (arith, from)) (omega (arith, to)))
        ∙ (let same : i + 1 + count ≡ i + suc count = omega arith in ap rest same)

    -- ---- the entries of the directory, one by one

    module _ (old found : Found) (i : ℕ) (low : i < length es) (so_far : found ++ rest i ≡ old) where
      pub kept : slot_at ss i ≡ None → found ++ rest (i + 1) ≡ old
      kept is = ap (λ v. found ++ v) (sym (empty_slot i low is)) ∙ so_far

      module _ (own : (entry_at es i).directory ≡ d) (child : Path) (named : child ≡ path ++ (entry_at es i).name ∷ []) where
        own_test : ((entry_at es i).directory == d) ≡ true
        own_test = eq-eqb (entry_at es i).directory d own

        pub found_file : (kind : FileKind) (file : ℕ) (new : Found) → slot_at ss i ≡ Some (File kind file)
            → new ≡ found ++ (child, File kind file) ∷ [] → new ++ rest (i + 1) ≡ old
        found_file kind file new is pushed =
            ap (λ v. v ++ rest (i + 1)) pushed
            ∙ append_assoc found ((child, File kind file) ∷ []) (rest (i + 1))
            ∙ ap (λ q. found ++ (q, File kind file) ∷ rest (i + 1)) named
            ∙ ap (λ b. found ++ (cond b ((path ++ (entry_at es i).name ∷ [], File kind file) ∷ []) [] ++ rest (i + 1))) (sym own_test)
            ∙ ap (λ v. found ++ v) (sym (full_slot i (File kind file) low is)) ∙ so_far

        pub found_directory : (c : ℕ) (pushed new : Found) → slot_at ss i ≡ Some (Directory c)
            → pushed ≡ found ++ (child, Directory c) ∷ [] → new ≡ pushed ++ below (held_in_slots es ss) n child c
            → new ++ rest (i + 1) ≡ old
        found_directory c pushed new is first all =
            ap (λ v. v ++ rest (i + 1)) (all ∙ ap (λ v. v ++ below (held_in_slots es ss) n child c) first)
            ∙ append_assoc (found ++ (child, Directory c) ∷ []) (below (held_in_slots es ss) n child c) (rest (i + 1))
            ∙ append_assoc found ((child, Directory c) ∷ []) (below (held_in_slots es ss) n child c ++ rest (i + 1))
            ∙ ap (λ q. found ++ (q, Directory c) ∷ (below (held_in_slots es ss) n q c ++ rest (i + 1))) named
            ∙ ap (λ b. found ++ (cond b
            ((path ++ (entry_at es i).name ∷ [], Directory c) ∷ below (held_in_slots es ss) n (path ++ (entry_at es i).name ∷ []) c) []
            ++ rest (i + 1))) (sym own_test)
            ∙ ap (λ v. found ++ v) (sym (full_slot i (Directory c) low is)) ∙ so_far

        -- what is no directory is a file or a symbolic link
        pub found_other : (node : Node) (new : Found) → ((c : ℕ) → node ≢ Directory c) → slot_at ss i ≡ Some node
            → new ≡ found ++ (child, node) ∷ [] → new ++ rest (i + 1) ≡ old
        found_other (File kind file) new other is pushed = found_file kind file new is pushed
        found_other (Directory c) new other is pushed = absurd (other c refl)

-- what is none of the nodes is nothing
pub none_left : (s : Slot) → ((node : Node) → s ≡ Some node → ⊥) → s ≡ None
none_left None none = refl
none_left (Some node) none = absurd (none node refl)

-- with names left to go down
pub below_is : (es : List Entry) (ss : List Slot) (path : Path) (d deep n : ℕ) → deep ≡ suc n
    → below (held_in_slots es ss) deep path d ≡ rest es ss n path d 0
below_is es ss path d deep n is = ap (λ k. below (held_in_slots es ss) k path d) is

-- the map of what is reached, from the slots
pub paths_of_slots : (es : List Entry) (ss : List Slot) → AreAscending es → (deep : ℕ)
    → pairs_in (([], Directory 0) ∷ below (held_in_slots es ss) deep [] 0) ≡ paths_in deep (table_of_slots es ss)
unfolding paths_in
paths_of_slots es ss up deep =
    ap (λ held. pairs_in (([], Directory 0) ∷ below held deep [] 0)) (sym (entries-held es ss up))

-- ---- the map of pairs, from the last on

pub record IsMapped (all left : Found) (m : FinMap path_cmp Node) : Type 0 where
  pub behind : Found
  pub is : left ++ behind ≡ all
  pub map : m ≡ pairs_in behind

pub none_mapped : (all : Found) (m : FinMap path_cmp Node) → m ≡ pairs_in [] → IsMapped all all m
none_mapped all m none = record { behind = []; is = append-nil all; map = none }

pub mapped_more : (all left before : Found) (old new : FinMap path_cmp Node) (p : Path) (node : Node) → IsMapped all before old
    → before ≡ left ++ (p, node) ∷ [] → new ≡ insert old p node → IsMapped all left new
mapped_more all left before old new p node mapped split is = record {
  behind = (p, node) ∷ mapped.behind;
  is = sym (append_assoc left ((p, node) ∷ []) mapped.behind) ∙ ap (λ v. v ++ mapped.behind) (sym split) ∙ mapped.is;
  map = is ∙ ap (λ m. insert m p node) mapped.map;
}

pub all_mapped : (all left : Found) (m : FinMap path_cmp Node) → IsMapped all left m → left ≡ [] → m ≡ pairs_in all
all_mapped all left m mapped none = mapped.map ∙ ap pairs_in (ap (λ v. v ++ mapped.behind) (sym none) ∙ mapped.is)
