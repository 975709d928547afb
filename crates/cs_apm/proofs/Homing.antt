-- The entries of the paths at the start.
use Rattle.std.proofs.Common.{◌≡◌, ◌≢◌, ℕ, zero, suc, ◌+◌, ◌-◌, ◌<◌, ◌≤◌, true, false, cond, List, [], ◌∷◌, ◌++◌, None, Some}
use Rattle.std.proofs.Common.{refl, sym, ap, ◌∙◌, subst, arith, ⊎_elim, length, length-append, map, take, get_or}
use Rattle.std.proofs.lemmas.List.{flat_map_more, get_or_at, take_all, take_more}
use Rattle.std.proofs.lemmas.Bool.{cases_lt}
use Rattle.std.proofs.lemmas.Slice.Zip.{get_or-zip, length-zip}
use Rattle.std.specs.Cmp.{tied_itself}
use Rattle.std.specs.declared.cmp.Ordering.TheVariants.{Less, Greater}
use Rattle.std.specs.FinMap.{entries, find, from_entries, get, get-from_entries}
use Rattle.std.specs.List.{flat_map, zip}
use Rattle.std.specs.List.Sorted.{IsPartitionPoint, IsStrictlySortedBy}
use Rattle.std.specs.Map.{keys_of}
use Rattle.std.specs.Ordering.{eq_by_cmp, is_eq, ordering_reverse}
use Rattle.cs_entries.specs.declared.entry.Entry.{Entry}
use Rattle.cs_entries.specs.declared.node.Node.{Node}
use Rattle.cs_entries.specs.declared.node.Node.TheVariants.{Directory}
use Rattle.cs_entries.specs.DirEntries.{last_name}
use Rattle.cs_tree_model.specs.Laws.Paths.{path_exact, path_total}
use Rattle.cs_tree_model.specs.Laws.Reads.{parent_of_snoc}
use Rattle.cs_tree_model.specs.Tree.{Path, path_cmp}
use Rattle.cs_trace.specs.Judging.{directory_number}
use Rattle.cs_trace.specs.Traces.{Paths, held_by_path}
use Rattle.cs_apm.specs.Held.{node_at, nodes_by_path}
use Rattle.cs_apm.specs.Laws.Ascents.{above_at}
use Rattle.cs_apm.specs.Slots.{AreAboveBy, AreAscendingBy}
use Rattle.cs_apm.proofs.Views.{entries-keyed}

-- ---- sorted paths

above_of : (p : Path) (ps : List Path) → IsStrictlySortedBy path_cmp (p ∷ ps) → AreAboveBy path_cmp p ps
unfolding IsStrictlySortedBy
above_of p [] h = tt
above_of p (q ∷ qs) h = (h.0.0, above_of p qs (h.0.1, h.1.1))

-- sorted paths ascend
pub ascending_of : (ps : List Path) → IsStrictlySortedBy path_cmp ps → AreAscendingBy path_cmp ps
unfolding IsStrictlySortedBy
ascending_of [] h = tt
ascending_of (p ∷ ps) h = (above_of p ps h, ascending_of ps h.1)

pub behind : (p q : Path) → path_cmp p q ≡ Less → eq_by_cmp path_cmp q p ≡ false
behind p q less = ap is_eq (path_total.antisymm q p ∙ ap ordering_reverse less)

pub itself : (p : Path) → eq_by_cmp path_cmp p p ≡ true
itself p = ap is_eq (tied_itself path_total p)

-- what is kept with the i-th path
pub find_zip : {X : Type 0} (ps : List Path) (xs : List X) (i : ℕ) (d : X) → AreAscendingBy path_cmp ps → i < length ps
    → length xs ≡ length ps → find path_cmp (get_or ps i []) (zip ps xs) ≡ Some (get_or xs i d)
find_zip [] xs i d up low long = absurd (omega (arith, low))
find_zip (p ∷ ps) [] i d up low long = absurd (omega (arith, long))
find_zip (p ∷ ps) (x ∷ xs) zero d up low long = ap (λ b. cond b (Some x) (find path_cmp p (zip ps xs))) (itself p)
find_zip (p ∷ ps) (x ∷ xs) (suc i) d up low long =
    ap (λ b. cond b (Some x) (find path_cmp (get_or ps i []) (zip ps xs)))
    (behind p (get_or ps i []) (above_at path_total path_exact p ps [] up.0 i (omega (arith, low))))
    ∙ find_zip ps xs i d up.1 (omega (arith, low)) (omega (arith, long))

-- nothing is kept with a path that none of them is
none_zip : {X : Type 0} (ps : List Path) (xs : List X) (q : Path)
    → ((k : ℕ) → k < length ps → eq_by_cmp path_cmp q (get_or ps k []) ≡ false) → find path_cmp q (zip ps xs) ≡ None
none_zip [] xs q none = refl
none_zip (p ∷ ps) [] q none = refl
none_zip (p ∷ ps) (x ∷ xs) q none =
    ap (λ b. cond b (Some x) (find path_cmp q (zip ps xs))) (none 0 (omega arith))
    ∙ none_zip ps xs q (λ k low. none (suc k) (omega (arith, low)))

-- ---- the number of the directory at a path

pub number_found : (paths : List Path) (nodes : List Node) (q : Path) (place : ℕ) (d : Node) → IsStrictlySortedBy path_cmp paths
    → length nodes ≡ length paths → place < length paths → get_or paths place [] ≡ q
    → get (nodes_by_path paths nodes) q ≡ Some (get_or nodes place d)
number_found paths nodes q place d sorted long low is =
    get-from_entries path_total (zip paths nodes) q ∙ ap (λ p. find path_cmp p (zip paths nodes)) (sym is)
    ∙ find_zip paths nodes place d (ascending_of paths sorted) low long

pub number_none : (paths : List Path) (nodes : List Node) (q : Path) (place : ℕ)
    → IsPartitionPoint (λ p. path_cmp p q ≡ Less) (λ p. path_cmp p q ≡ Greater) paths place
    → get (nodes_by_path paths nodes) q ≡ None
number_none paths nodes q place part =
    get-from_entries path_total (zip paths nodes) q
    ∙ none_zip paths nodes q (λ k low. ⊎_elim
    (λ (lt : k < place). behind (get_or paths k []) q (part.0 k [] (omega arith) lt))
    (λ (le : place ≤ k). ap is_eq (path_total.antisymm q (get_or paths k []) ∙ ap ordering_reverse (part.1 k [] le low)))
    (cases_lt k place))

-- ---- the entry of a path

last_of_snoc : (p : Path) (name : List ℕ) → last_name (p ++ name ∷ []) ≡ name
last_of_snoc p name =
    let long : length (p ++ name ∷ []) - 1 ≡ length p = omega (arith, length-append p (name ∷ [])) in
    ap (λ k. get_or (p ++ name ∷ []) k []) long ∙ get_or_at p name [] [] (length p) refl

some_pair : (m : Paths) (p : Path) (node : Node) → p ≢ []
    → held_by_path m (p, node) ≡ (record { directory = directory_number (get m (take (length p - 1) p)); name = last_name p }, node) ∷ []
some_pair m [] node some = absurd (some refl)
some_pair m (x ∷ p) node some = refl

not_empty : (p : Path) (name : List ℕ) → p ++ name ∷ [] ≢ []
not_empty [] name is = absurd (cc)
not_empty (x ∷ p) name is = absurd (cc)

pub pair_of : (m : Paths) (above : Path) (name : List ℕ) (p : Path) (node : Node) (number : ℕ) → p ≡ above ++ name ∷ []
    → number ≡ directory_number (get m above)
    → held_by_path m (p, node) ≡ (record { directory = number; name = name }, node) ∷ []
pair_of m above name p node number is at =
    ap (λ q. held_by_path m (q, node)) is
    ∙ some_pair m (above ++ name ∷ []) node (not_empty above name)
    ∙ (λ i. let e : Entry = record {
      directory = (ap (λ q. directory_number (get m q)) (parent_of_snoc above name) ∙ sym at) i;
      name = last_of_snoc above name i;
    } in (e, node) ∷ [])

-- ---- all of them

keys-zip : {X : Type 0} (ps : List Path) (xs : List X) → length xs ≡ length ps → keys_of (zip ps xs) ≡ ps
keys-zip [] xs long = refl
keys-zip (p ∷ ps) [] long = absurd (omega (arith, long))
keys-zip (p ∷ ps) (x ∷ xs) long = ap (λ v. p ∷ v) (keys-zip ps xs (omega (arith, long)))

pub entries-zip : (paths : List Path) (nodes : List Node) → IsStrictlySortedBy path_cmp paths → length nodes ≡ length paths
    → entries (nodes_by_path paths nodes) ≡ zip paths nodes
entries-zip paths nodes sorted long =
    entries-keyed path_total path_exact (zip paths nodes)
    (subst (IsStrictlySortedBy path_cmp) (sym (keys-zip paths nodes long)) sorted)

-- one pair more
pub pairs_more : (m : Paths) (paths : List Path) (nodes : List Node) (k : ℕ) → k < length paths → length nodes ≡ length paths
    → flat_map (held_by_path m) (take (k + 1) (zip paths nodes))
    ≡ flat_map (held_by_path m) (take k (zip paths nodes)) ++ held_by_path m (get_or paths k [], node_at nodes k)
pairs_more m paths nodes k low long =
    let zs = zip paths nodes in
    let inside : k < length zs = omega (arith, low, long, length-zip paths nodes) in
    ap (flat_map (held_by_path m)) (take_more zs k ([], Directory 0) inside)
    ∙ sym (flat_map_more (held_by_path m) [] (take k zs) (get_or zs k ([], Directory 0)))
    ∙ ap (λ x. flat_map (held_by_path m) (take k zs) ++ held_by_path m x)
    (get_or-zip paths nodes k ([], Directory 0) low (omega (arith, low, long)))

pub pairs_all : (m : Paths) (paths : List Path) (nodes : List Node) (k : ℕ) → k ≡ length paths → length nodes ≡ length paths
    → flat_map (held_by_path m) (take k (zip paths nodes)) ≡ flat_map (held_by_path m) (zip paths nodes)
pairs_all m paths nodes k is long =
    ap (flat_map (held_by_path m)) (take_all k (zip paths nodes) (omega (arith, is, long, length-zip paths nodes)))

pub pair_few : (m : Paths) (p : Path) (node : Node) → length (held_by_path m (p, node)) ≤ 1
pair_few m [] node = omega arith
pair_few m (x ∷ p) node = omega arith
