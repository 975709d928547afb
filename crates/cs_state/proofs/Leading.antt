-- The paths of what a set leaves, by the positions of directories: each leads to what its entry holds, and they are all.
use Rattle.std.proofs.Common.{◌≡◌, ◌≢◌, ℕ, zero, suc, ◌+◌, ◌<◌, ◌≤◌, true, false, cond, List, [], ◌∷◌, ◌++◌, None, Some, refl, sym, ap, ◌∙◌}
use Rattle.std.proofs.Common.{arith, ⊎_elim, length, map, get_or}
use Rattle.std.proofs.lemmas.Bool.{cases_lt, eq-eqb, false≢true, ne_eqb}
use Rattle.std.proofs.lemmas.List.{get_or-map, length-map}
use Rattle.std.specs.Cmp.{tied_itself}
use Rattle.std.specs.Option.{is_some}
use Rattle.std.specs.Ordering.{is_lt}
use Rattle.std.specs.declared.cmp.Ordering.{Ordering}
use Rattle.std.specs.declared.cmp.Ordering.TheVariants.{Less, Equal, Greater}
use Rattle.cs_tree_model.specs.Laws.Paths.{path_exact}
use Rattle.cs_tree_model.specs.Tree.{NameBytes, Path, path_cmp}
use Rattle.cs_entries.specs.DirEntries.{root_home}
use Rattle.cs_entries.specs.Entries.{Entries, entry_eq}
use Rattle.cs_entries.specs.Legal.{Any, IsTree, Way}
use Rattle.cs_entries.specs.Paths.{at_path, entry_in}
use Rattle.cs_entries.specs.Positions.{climb, climb_entry}
use Rattle.cs_entries.specs.Tables.{entry_cmp}
use Rattle.cs_entries.specs.Laws.Climbs.{climbs_apart, entry_climbed}
use Rattle.cs_entries.specs.Laws.Depths.{AreBelow, short_way}
use Rattle.cs_entries.specs.Laws.One.{entry_cases}
use Rattle.cs_entries.specs.Laws.Paths.{IsMore, at_more, in_directory, last_cases, one_path}
use Rattle.cs_entries.specs.Laws.Records.{entry_exact, entry_total}
use Rattle.cs_entries.specs.declared.entry.Entry.{Entry}
use Rattle.cs_entries.specs.declared.node.Node.{Node}
use Rattle.cs_entries.specs.declared.node.Node.TheVariants.{Directory}
use Rattle.cs_apm.specs.Laws.Ascents.{ascends}
use Rattle.cs_apm.specs.Laws.Mirrors.{at_place}
use Rattle.cs_apm.specs.Slots.{AreAscending, IsPlace, Slot, entry_at, slot_at, slot_of}
use Rattle.cs_paths.specs.Marks.{kept_at}
use Rattle.cs_paths.specs.PathOrders.{AreInOrder, ArePlaces, path_of_place, slots_by_path}
use Rattle.cs_paths.proofs.Laws.{place_there}
use Rattle.cs_state.specs.Shares.{is_entry}
use Rattle.cs_state.proofs.Holding.{AreRising, IsThere, path_at}

-- ---- places of entries

-- an entry that holds something has a place
pub held_place : (es : List Entry) (ss : List Slot) (e : Entry) (v : Node) → slot_of es ss e ≡ Some v → (k : ℕ) × IsPlace es k e
held_place [] ss e v h = absurd (false≢true (ap is_some h))
held_place (f ∷ fs) [] e v h = absurd (false≢true (ap is_some h))
held_place (f ∷ fs) (s ∷ ss) e v h = ⊎_elim
    (λ (one : (entry_eq f e ≡ true) × (f ≡ e)). (0, (omega arith, one.1)))
    (λ (two : (entry_eq f e ≡ false) × (f ≢ e)).
    let w = held_place fs ss e v (sym (ap (λ b. cond b s (slot_of fs ss e)) two.0) ∙ h) in
    let low = w.1.0 in
    (suc w.0, (omega (arith, low), w.1.1)))
    (entry_cases f e)

not_itself : (e f : Entry) → entry_cmp e f ≡ Less → e ≡ f → ⊥
not_itself e f less same =
    false≢true (sym (ap is_lt (tied_itself entry_total e)) ∙ ap is_lt (ap (entry_cmp e) same ∙ less))

-- two places have two entries
pub entries_apart : (es : List Entry) → AreAscending es → (i j : ℕ) → i < length es → j < length es → entry_at es i ≡ entry_at es j → i ≡ j
entries_apart es up i j low high same = ⊎_elim
    (λ (lt : i < j). absurd (not_itself (entry_at es i) (entry_at es j) (ascends entry_total entry_exact es root_home up i j lt high) same))
    (λ (ge : j ≤ i). ⊎_elim
    (λ (lt : j < i). absurd
    (not_itself (entry_at es j) (entry_at es i) (ascends entry_total entry_exact es root_home up j i lt low) (sym same)))
    (λ (le : i ≤ j). omega (arith, le, ge))
    (cases_lt j i))
    (cases_lt i j)

-- ---- paths up from a directory

module _ (m : Entries) (tree : IsTree m) (at : ℕ → Entry)
    (placed : (e : Entry) (d : ℕ) → m e ≡ Some (Directory d) → at d ≡ e) where
  -- (a private lemma of cs_entries says the same)
  climbed : (k n d : ℕ) → k ≤ n → Way m Any k d → at_path m (climb at n d) ≡ Some (Directory d)
  climbed zero zero d le w = ap (λ c. Some (Directory c)) (sym w)
  climbed zero (suc n) d le w =
      ap (λ b. at_path m (cond b [] (climb at n (at d).directory ++ (at d).name ∷ []))) (eq-eqb d 0 w)
      ∙ ap (λ c. Some (Directory c)) (sym w)
  climbed (suc k) zero d le w = absurd (omega (arith, le))
  climbed (suc k) (suc n) d le w =
      (let here = placed w.0 d w.1 in
      let up = climbed k n w.0.directory (omega (arith, le)) w.3 in
      ap (λ b. at_path m (cond b [] (climb at n (at d).directory ++ (at d).name ∷ [])))
      (ne_eqb d 0 (λ z. tree.root w.0 (w.1 ∙ ap (λ c. Some (Directory c)) z)))
      ∙ ap (λ e. at_path m (climb at n e.directory ++ e.name ∷ [])) here
      ∙ at_more m (climb at n w.0.directory) w.0.name w.0.directory up ∙ w.1)

  -- the path of the directory of an entry that holds something leads to it
  pub directory_leads : (n : ℕ) → AreBelow n m → (e : Entry) (node : Node) → m e ≡ Some node
      → at_path m (climb at n e.directory) ≡ Some (Directory e.directory)
  directory_leads n few e node is =
      (let w = tree.reached e node is in climbed w.0 n e.directory (short_way m tree n few w.0 e.directory w.1) w.1)

-- ---- all paths, by ids

root_first : (p : Path) (x : NameBytes) → path_cmp [] (p ++ x ∷ []) ≡ Less
root_first [] x = refl
root_first (y ∷ p) x = refl

stands : (s : Slot) → is_entry s ≡ true → (v : Node) × (s ≡ Some v)
stands None here = absurd (false≢true here)
stands (Some v) here = (v, refl)

module _ (es : List Entry) (up : AreAscending es) (slots : List Slot) (long : length slots ≡ length es) (m : Entries)
    (mirror : (e : Entry) → m e ≡ slot_of es slots e) (tree : IsTree m) (at : ℕ → Entry)
    (placed : (e : Entry) (d : ℕ) → m e ≡ Some (Directory d) → at d ≡ e) (deep : ℕ) (few : AreBelow deep m)
    (places : List ℕ) (each : ArePlaces (length es) places) (ordered : AreInOrder at deep es places) where
  -- the root's, and then those of the entries
  abbrev pub paths : List Path
  paths = [] ∷ map (path_of_place at deep es) places

  abbrev pub shown : List Slot
  shown = slots_by_path places slots

  place_low : (k : ℕ) → k < length places → kept_at places k < length es
  place_low k low = each.low k 0 low

  pub held : (k : ℕ) → k < length es → m (entry_at es k) ≡ slot_at slots k
  held k low = mirror (entry_at es k) ∙ at_place es slots up long k (entry_at es k) (low, refl)

  pub path_is : (k : ℕ) → k < length places → path_at paths (suc k) ≡ path_of_place at deep es (kept_at places k)
  path_is k low = get_or-map (path_of_place at deep es) places k 0 [] low

  pub slot_is : (k : ℕ) → k < length places → slot_at shown (suc k) ≡ slot_at slots (kept_at places k)
  slot_is k low = get_or-map (slot_at slots) places k 0 None low

  pub paths_long : length paths ≡ length es + 1
  paths_long = (let l = length-map places (path_of_place at deep es) in let e = each.long in omega (arith, l, e))

  pub shown_long : length shown ≡ length es + 1
  shown_long = (let l = length-map places (slot_at slots) in let e = each.long in omega (arith, l, e))

  inside : (k : ℕ) → suc k < length paths → k < length places
  inside k low = (let l = paths_long in let e = each.long in omega (arith, low, l, e))

  entry_holds : (k : ℕ) (v : Node) → k < length places → slot_at shown (suc k) ≡ Some v → m (entry_at es (kept_at places k)) ≡ Some v
  entry_holds k v low is = held (kept_at places k) (place_low k low) ∙ sym (slot_is k low) ∙ is

  pub leads : (i : ℕ) → i < length paths → (v : Node) → slot_at shown i ≡ Some v → at_path m (path_at paths i) ≡ Some v
  leads zero low v is = is
  leads (suc k) low v is =
      (let l = inside k low in
      ap (at_path m) (path_is k l)
      ∙ entry_climbed m tree at placed deep few (entry_at es (kept_at places k)) v (entry_holds k v l is))

  -- what a path leads to has an id
  pub has_id : (q : Path) (v : Node) → at_path m q ≡ Some v → IsThere paths shown q v
  has_id q v h = ⊎_elim
      (λ (e : q ≡ []). record { id = 0; low = omega arith; path = sym e; slot = sym (ap (at_path m) e) ∙ h })
      (λ (w : IsMore q).
      let i = in_directory m w.front w.last v (ap (at_path m) (sym w.is) ∙ h) in
      let e = entry_in i.directory w.last in
      let k = held_place es slots e v (sym (mirror e) ∙ i.held) in
      let j = place_there (length es) places each k.0 k.1.0 in
      let front : w.front ≡ climb at deep i.directory =
      one_path m tree (length w.front) w.front (climb at deep i.directory) i.directory (omega arith) i.above
      (directory_leads m tree at placed deep few e v i.held) in
      let entry : entry_at es (kept_at places j.0) ≡ e = ap (entry_at es) j.2 ∙ k.1.1 in
      let lower = j.1 in
      let l = paths_long in
      let n = each.long in
      record {
        id = suc j.0;
        low = omega (arith, lower, l, n);
        path = path_is j.0 j.1 ∙ ap (climb_entry at deep) entry ∙ ap (λ p. p ++ w.last ∷ []) (sym front) ∙ sym w.is;
        slot = slot_is j.0 j.1 ∙ sym (held (kept_at places j.0) (place_low j.0 j.1)) ∙ ap m entry ∙ i.held;
      })
      (last_cases q)

  entries_rise : (i j : ℕ) → i < j → j < length places → (v w : Node) → m (entry_at es (kept_at places i)) ≡ Some v
      → m (entry_at es (kept_at places j)) ≡ Some w
      → path_cmp (path_of_place at deep es (kept_at places i)) (path_of_place at deep es (kept_at places j)) ≡ Less
  entries_rise i j lt low v w one two =
      by (path_cmp (path_of_place at deep es (kept_at places i)) (path_of_place at deep es (kept_at places j))) refl
    where
      by : (o : Ordering)
          → path_cmp (path_of_place at deep es (kept_at places i)) (path_of_place at deep es (kept_at places j)) ≡ o
          → path_cmp (path_of_place at deep es (kept_at places i)) (path_of_place at deep es (kept_at places j)) ≡ Less
      by Less is = is
      by Greater is = absurd (ordered i j lt low is)
      by Equal is = absurd (each.once i j lt low
          (entries_apart es up (kept_at places i) (kept_at places j) (place_low i (omega (arith, lt, low))) (place_low j low)
          (climbs_apart m tree at placed deep few (entry_at es (kept_at places i)) (entry_at es (kept_at places j)) v w one two
          (path_exact (path_of_place at deep es (kept_at places i)) (path_of_place at deep es (kept_at places j)) is))))

  pub rising : AreRising paths shown
  rising i zero lt low a b = absurd (omega (arith, lt))
  rising zero (suc k) lt low a b =
      (let e = entry_at es (kept_at places k) in
      ap (path_cmp []) (path_is k (inside k low)) ∙ root_first (climb at deep e.directory) e.name)
  rising (suc i) (suc j) lt low a b =
      (let high = inside j low in
      let lower : i < length places = omega (arith, lt, high) in
      let v = stands (slot_at shown (suc i)) a in
      let w = stands (slot_at shown (suc j)) b in
      (λ k. path_cmp (path_is i lower k) (path_is j high k))
      ∙ entries_rise i j (omega (arith, lt)) high v.0 w.0 (entry_holds i v.0 lower v.1) (entry_holds j w.0 high w.1))
