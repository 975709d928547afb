-- Which record is each file's at the start, and which is each directory's.
use Rattle.std.proofs.Common.{◌≡◌, ℕ, zero, suc, ◌+◌, ◌-◌, ◌<◌, Bool, true, false, cond, List, [], ◌∷◌, Option, None, Some, refl, sym, ap}
use Rattle.std.proofs.Common.{◌∙◌, subst, arith, ⊎_elim, length, map, drop, get_or, replicate, unwrap_or}
use Rattle.std.proofs.lemmas.Bool.{cases_Bool, cases_eq, eq-eqb, ne_eqb}
use Rattle.std.proofs.lemmas.List.{drop_all, get_or-set_other, get_or-set_same, length-set}
use Rattle.std.proofs.lemmas.Option.{get_or_from_slice_get, slice_get-get_or}
use Rattle.std.proofs.Math.Seq.{drop-cons}
use Rattle.std.specs.FinMap.{find, get, get-from_entries}
use Rattle.std.specs.List.{position_from, range_with_len, zip}
use Rattle.std.specs.Option.{option_map_or}
use Rattle.std.specs.Ordering.{eq_by_cmp}
use Rattle.std.specs.Prelude.{slice_get, slice_set}
use Rattle.std.specs.declared.cmp.Ordering.TheVariants.{Less}
use Rattle.cs_entries.specs.declared.node.Node.{Node}
use Rattle.cs_entries.specs.declared.node.Node.TheVariants.{Directory, File}
use Rattle.cs_tree_model.specs.declared.record.Record.{Record}
use Rattle.cs_tree_model.specs.Laws.Paths.{path_total}
use Rattle.cs_tree_model.specs.Tree.{Path, path_cmp}
use Rattle.cs_start.specs.declared.rights.Rights.{Rights}
use Rattle.cs_trace.specs.Traces.{AreAlikeAt, IsFileNumbered, IsPathOf, Trace, record_in, start_paths}
use Rattle.cs_apm.specs.Atlases.{AreStarts}
use Rattle.cs_apm.specs.Held.{node_at}
use Rattle.cs_apm.specs.Making.{FindsFiles, IsFile, with_directory_noted}
use Rattle.cs_apm.specs.Rules.{is_directory_numbered}
use Rattle.cs_apm.specs.Slots.{AreAscendingBy}
use Rattle.cs_apm.specs.States.{Content, content_at, content_of, directory_place, no_content, no_record, no_rights, owner_at, permission_bits}
use Rattle.cs_apm.specs.States.{rights_of}
use Rattle.cs_apm.specs.Laws.Ascents.{above_at}
use Rattle.cs_apm.proofs.Homing.{behind, find_zip, itself}
use Rattle.cs_tree_model.specs.Laws.Paths.{path_exact}

pub names_length : (es : List (Path × Record)) → length (map (λ e. e.0) es) ≡ length es
names_length [] = refl
names_length (e ∷ es) = ap suc (names_length es)

pub named_at : (es : List (Path × Record)) (i : ℕ) → i < length es → get_or (map (λ e. e.0) es) i [] ≡ (get_or es i no_record).0
named_at [] i low = absurd (omega (arith, low))
named_at (e ∷ es) zero low = refl
named_at (e ∷ es) (suc i) low = named_at es i (omega (arith, low))

find_record : (es : List (Path × Record)) (i : ℕ) → AreAscendingBy path_cmp (map (λ e. e.0) es) → i < length es
    → find path_cmp (get_or es i no_record).0 es ≡ Some (get_or es i no_record).1
find_record [] i up low = absurd (omega (arith, low))
find_record (e ∷ es) zero up low = ap (λ b. cond b (Some e.1) (find path_cmp e.0 es)) (itself e.0)
find_record (e ∷ es) (suc i) up low =
    ap (λ b. cond b (Some e.1) (find path_cmp (get_or es i no_record).0 es))
    (behind e.0 (get_or es i no_record).0
    (subst (λ q. path_cmp e.0 q ≡ Less) (named_at es i (omega (arith, low)))
    (above_at path_total path_exact e.0 (map (λ e. e.0) es) [] up.0 i (omega (arith, low, names_length es)))))
    ∙ find_record es i up.1 (omega (arith, low))

-- what is found is at some place
found_node : (q : Path) (records : List (Path × Record)) (ns : List Node) (n : ℕ)
    → IsFileNumbered n (find path_cmp q (zip (map (λ e. e.0) records) ns)) → (i : ℕ) × (i < length ns) × IsFile n (node_at ns i)
found_node q [] ns n h = absurd h
found_node q (e ∷ es) [] n h = absurd h
found_node q (e ∷ es) (x ∷ ns) n h = ⊎_elim
    (λ (t : eq_by_cmp path_cmp q e.0 ≡ true).
    (let here = subst (λ b. IsFileNumbered n (cond b (Some x) (find path_cmp q (zip (map (λ e. e.0) es) ns)))) t h in
    (0, omega arith, is_file x here)))
    (λ (t : eq_by_cmp path_cmp q e.0 ≡ false).
    (let w = found_node q es ns n (subst (λ b. IsFileNumbered n (cond b (Some x) (find path_cmp q (zip (map (λ e. e.0) es) ns)))) t h) in
    let l = w.1 in (suc w.0, omega (arith, l), w.2)))
    (cases_Bool (eq_by_cmp path_cmp q e.0))
  where
    is_file : (x : Node) → IsFileNumbered n (Some x) → IsFile n x
    is_file (Directory d) f = absurd f
    is_file (File kind file) f = f

numbered_file : (n : ℕ) (x : Node) → IsFile n x → IsFileNumbered n (Some x)
numbered_file n (Directory d) f = absurd f
numbered_file n (File kind file) f = f

-- records that are alike have one content, and one owner, group and mode
alike_content : (r : Record) (o : Option Record) → AreAlikeAt (Some r) o → content_of r ≡ option_map_or content_of o no_content
alike_content r None alike = absurd alike
alike_content r (Some s) alike = ap (λ o. let c : Content = record {
  size = length (unwrap_or o []);
  bytes = unwrap_or o [];
} in c) alike.content

alike_rights : (r : Record) (o : Option Record) → AreAlikeAt (Some r) o → rights_of r ≡ option_map_or rights_of o no_rights
alike_rights r None alike = absurd alike
alike_rights r (Some s) alike = λ w. record { owner = alike.owner w; group = alike.group w; permissions = permission_bits (alike.mode w) }

module _ (t : Trace) (each : length t.nodes ≡ length t.records) (up : AreAscendingBy path_cmp (map (λ e. e.0) t.records))
    (numbered : (n : ℕ) (p : Path) → slice_get t.files n ≡ Some p → IsFileNumbered n (get (start_paths t) p))
    (found : (n : ℕ) (p : Path) → IsFileNumbered n (get (start_paths t) p) → IsPathOf t n p)
    (starts : List ℕ) (long : length starts ≡ length t.files) (finds : FindsFiles t.nodes (length t.nodes) starts) where
  module _ (n : ℕ) (low : n < length starts) where
    there : slice_get t.files n ≡ Some (get_or t.files n [])
    there = slice_get-get_or t.files n [] (subst (λ k. n < k) long low)

    noted_at : (get_or starts n 0 < length t.nodes) × IsFile n (node_at t.nodes (get_or starts n 0))
    noted_at =
        (let w = found_node (get_or t.files n []) t.records t.nodes n
        (subst (IsFileNumbered n) (get-from_entries path_total (zip (map (λ e. e.0) t.records) t.nodes) (get_or t.files n []))
        (numbered n (get_or t.files n []) there)) in
        finds n w.0 low w.1 w.2)

    pub inside : get_or starts n 0 < length t.records
    inside = subst (λ k. get_or starts n 0 < k) each noted_at.0

    stands : IsFileNumbered n (get (start_paths t) (get_or t.records (get_or starts n 0) no_record).0)
    stands =
        subst (IsFileNumbered n)
        (sym (get-from_entries path_total (zip (map (λ e. e.0) t.records) t.nodes) _
        ∙ ap (λ q. find path_cmp q (zip (map (λ e. e.0) t.records) t.nodes)) (sym (named_at t.records (get_or starts n 0) inside))
        ∙ find_zip (map (λ e. e.0) t.records) t.nodes (get_or starts n 0) (Directory 0) up
        (subst (λ k. get_or starts n 0 < k) (sym (names_length t.records)) inside) (each ∙ sym (names_length t.records))))
        (numbered_file n (node_at t.nodes (get_or starts n 0)) noted_at.1)

    record_there : record_in t.records (get_or t.records (get_or starts n 0) no_record).0
        ≡ Some (get_or t.records (get_or starts n 0) no_record).1
    record_there = get-from_entries path_total t.records _ ∙ find_record t.records (get_or starts n 0) up inside

    -- the record is that of a path of the file, and alike that of its own path
    alike : AreAlikeAt (Some (get_or t.records (get_or starts n 0) no_record).1) (record_in t.records (get_or t.files n []))
    alike =
        let p = (get_or t.records (get_or starts n 0) no_record).0 in
        let found_path : IsPathOf t n p = found n p stands in
        let own = sym (get_or_from_slice_get t.files n found_path.own [] found_path.at) in
        subst (λ o. AreAlikeAt o (record_in t.records (get_or t.files n []))) record_there
        (subst (λ q. AreAlikeAt (record_in t.records p) (record_in t.records q)) own found_path.alike)

    pub owner_of_file : rights_of (get_or t.records (get_or starts n 0) no_record).1 ≡ owner_at t.records (get_or t.files n [])
    owner_of_file = alike_rights _ _ alike

    content_of_file : content_of (get_or t.records (get_or starts n 0) no_record).1 ≡ content_at t.records (get_or t.files n [])
    content_of_file = alike_content _ _ alike

  pub are_starts : AreStarts t starts
  are_starts = record { long = long; each = inside; content = content_of_file }

  owners_from : (ss : List ℕ) (fs : List Path) (f : ℕ → Rights) (g : Path → Rights) → length ss ≡ length fs
      → ((n : ℕ) → n < length ss → f (get_or ss n 0) ≡ g (get_or fs n [])) → map f ss ≡ map g fs
  owners_from [] [] f g same each = refl
  owners_from [] (q ∷ qs) f g same each = absurd (omega (arith, same))
  owners_from (s ∷ ss) [] f g same each = absurd (omega (arith, same))
  owners_from (s ∷ ss) (q ∷ qs) f g same each =
      λ i. each 0 (omega arith) i ∷ owners_from ss qs f g (omega (arith, same)) (λ n low. each (suc n) (omega (arith, low))) i

  pub start_owners : map (λ place. rights_of (get_or t.records place no_record).1) starts ≡ map (owner_at t.records) t.files
  start_owners =
      owners_from starts t.files (λ place. rights_of (get_or t.records place no_record).1) (owner_at t.records) long owner_of_file

-- ---- directories

-- the place of the first from the k-th node on
abbrev pub place_behind : List Node → ℕ → ℕ → ℕ
place_behind ns k d = unwrap_or (position_from (is_directory_numbered d) k (drop k ns)) 0

abbrev pub AreNotedFrom : List Node → ℕ → ℕ → List ℕ → Type 0
AreNotedFrom ns count k places = (d : ℕ) → d < count → get_or places d 0 ≡ place_behind ns k d

zeros : (count d : ℕ) → ◌≡◌ {A = ℕ} (get_or (replicate count 0) d 0) 0
zeros zero d = refl
zeros (suc count) zero = refl
zeros (suc count) (suc d) = zeros count d

-- behind the last node there is none
pub none_noted : (ns : List Node) (count k : ℕ) (places : List ℕ) → places ≡ replicate count 0 → k ≡ length ns
    → AreNotedFrom ns count k places
none_noted ns count k places are is d low =
    ap (λ v. get_or v d 0) are ∙ zeros count d
    ∙ sym (ap (λ v. unwrap_or (position_from (is_directory_numbered d) k v) 0) (drop_all k ns (omega (arith, is))))

pub length-noted : (places : List ℕ) (x : Node) (k : ℕ) → length (with_directory_noted places x k) ≡ length places
length-noted places (File kind file) k = refl
length-noted places (Directory d) k = length-set places d k

-- one node more, from the end
pub directory_noted : (ns : List Node) (count k : ℕ) (x : Node) (places : List ℕ) → k < length ns → x ≡ get_or ns k x
    → length places ≡ count
    → AreNotedFrom ns count (k + 1) places → AreNotedFrom ns count k (with_directory_noted places x k)
directory_noted ns count k x places low is long noted d inside =
    one x ∙ sym (ap (λ v. unwrap_or (position_from (is_directory_numbered d) k v) 0) (drop-cons ns k x low
    ∙ ap (λ y. y ∷ drop (suc k) ns) (sym is)))
  where
    rest : get_or places d 0 ≡ unwrap_or (position_from (is_directory_numbered d) (k + 1) (drop (suc k) ns)) 0
    rest = (let more : k + 1 ≡ suc k = omega arith in
        noted d inside ∙ ap (λ j. unwrap_or (position_from (is_directory_numbered d) (k + 1) (drop j ns)) 0) more)

    one : (x : Node) → get_or (with_directory_noted places x k) d 0
        ≡ unwrap_or (cond (is_directory_numbered d x) (Some k) (position_from (is_directory_numbered d) (k + 1) (drop (suc k) ns))) 0
    one (File kind file) = rest
    one (Directory c) = ⊎_elim
        (λ (e : c ≡ d). ap (λ v. get_or (slice_set places v k) d 0) e
        ∙ get_or-set_same places d k 0 (subst (λ n. d < n) (sym long) inside)
        ∙ sym (ap (λ b. unwrap_or (cond b (Some k) (position_from (is_directory_numbered d) (k + 1) (drop (suc k) ns))) 0) (eq-eqb c d e)))
        (λ (ne : c ≡ d → ⊥). get_or-set_other places c d k 0 (λ s. ne (sym s)) ∙ rest
        ∙ sym (ap (λ b. unwrap_or (cond b (Some k) (position_from (is_directory_numbered d) (k + 1) (drop (suc k) ns))) 0) (ne_eqb c d ne)))
        (cases_eq c d)

-- with each place the record of a directory is one of the start's
place_low : (ns : List Node) (k d n : ℕ) (xs : List Node) → k + length xs ≡ n → 0 < n
    → unwrap_or (position_from (is_directory_numbered d) k xs) 0 < n
place_low ns k d n [] is some = some
place_low ns k d n (x ∷ xs) is some = by (is_directory_numbered d x) (place_low ns (k + 1) d n xs (omega (arith, is)) some)
  where
    by : (b : Bool) → unwrap_or (position_from (is_directory_numbered d) (k + 1) xs) 0 < n
        → unwrap_or (cond b (Some k) (position_from (is_directory_numbered d) (k + 1) xs)) 0 < n
    by true rest = omega (arith, is)
    by false rest = rest

pub directory_inside : (ns : List Node) (d : ℕ) → 0 < length ns → directory_place ns d < length ns
directory_inside ns d some = place_low ns 0 d (length ns) ns (omega arith) some

-- the rights of all of them
pub rights_from : (records : List (Path × Record)) (ns : List Node) (places : List ℕ) (count from : ℕ) → length places ≡ count
    → ((n : ℕ) → n < count → get_or places n 0 ≡ directory_place ns (from + n))
    → map (λ place. rights_of (get_or records place no_record).1) places
    ≡ map (λ n. rights_of (get_or records (directory_place ns n) no_record).1) (range_with_len from count)
rights_from records ns [] zero from long each = refl
rights_from records ns [] (suc count) from long each = absurd (omega (arith, long))
rights_from records ns (p ∷ places) zero from long each = absurd (omega (arith, long))
rights_from records ns (p ∷ places) (suc count) from long each =
    let here : from + 0 ≡ from = omega arith in
    let first : p ≡ directory_place ns from = each 0 (omega arith) ∙ ap (directory_place ns) here in
    let next : (n : ℕ) → from + suc n ≡ from + 1 + n = λ n. omega arith in
    (λ i. rights_of (get_or records (first i) no_record).1
    ∷ rights_from records ns places count (from + 1) (omega (arith, long))
    (λ n low. each (suc n) (omega (arith, low)) ∙ ap (directory_place ns) (next n)) i)
