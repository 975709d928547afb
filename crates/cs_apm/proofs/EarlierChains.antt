-- Each need of before version 4 is a chain of at most two needs of now.
use Rattle.std.proofs.Common.{◌≡◌, ◌≢◌, ℕ, zero, suc, ◌+◌, ◌-◌, ◌<◌, ◌≤◌, not, Bool, true, false, List, [], ◌⊎◌, inl, inr, Some}
use Rattle.std.proofs.Common.{refl, sym, ap, ◌∙◌, subst, arith, length, map, ⊎_elim}
use Rattle.std.proofs.lemmas.Bool.{and_parts, cases_eq, false≢true}
use Rattle.std.specs.List.{Contains, list_any}
use Rattle.cs_tree_model.specs.Laws.Reads.{parent_of_snoc}
use Rattle.cs_tree_model.specs.Tree.{Path, parent_path}
use Rattle.cs_entries.specs.declared.entry.DirEntry.{DirEntry}
use Rattle.cs_entries.specs.declared.entry.Entry.{Entry}
use Rattle.cs_entries.specs.declared.node.Node.TheVariants.{Directory}
use Rattle.cs_entries.specs.DirEntries.{IsNamed, entry_of}
use Rattle.cs_entries.specs.Entries.{Entries, EntryOp, Create, Delete, Other, after, entry_eq}
use Rattle.cs_entries.specs.Legal.{Any, IsLegal as IsLegalEntryOp, IsReached, Way}
use Rattle.cs_entries.specs.Paths.{at_path, entry_in}
use Rattle.cs_entries.specs.Laws.One.{entry_cases, put_other}
use Rattle.cs_entries.specs.Laws.Paths.{IsMore, in_directory, last_cases}
use Rattle.cs_trace_lines.specs.declared.profile.Profile.{Profile}
use Rattle.cs_trace_lines.specs.declared.version.Version.{Version}
use Rattle.cs_trace.specs.declared.operation.Target.TheVariants as targets
use Rattle.cs_micro.specs.declared.micro_op.MicroOp.{MicroOp}
use Rattle.cs_micro.specs.declared.sync_point.SyncPoint.{SyncPoint}
use Rattle.cs_micro.specs.Earlier.Same.{op_before}
use Rattle.cs_micro.specs.Legal.{AreNamed, entry_op}
use Rattle.cs_sets.specs.Chains.{Chain}
use Rattle.cs_apm.specs.Earlier.Rules as before
use Rattle.cs_apm.specs.Laws.Lists.{any_found, any_between}
use Rattle.cs_apm.specs.Laws.Reasons.{needs_exactly}
use Rattle.cs_apm.specs.Reasons.{Creates, IsLatestMaking, Reason, Settles, Touches, makes_directory, settles_one_directory, touches_one_entry}
use Rattle.cs_apm.specs.Rules.{entry_op_at, needs, op_at}
use Rattle.cs_apm.proofs.EarlierPaths.{one_directory}
use Rattle.cs_apm.proofs.EarlierRules.{SetsAt, at_before, dir_entries, named_says}
use Rattle.cs_apm.proofs.EarlierTimes.{IsHistory, creates_by, directory_cases, entry_at_path, held_named, made_after}
use Rattle.cs_apm.proofs.EarlierTimes.{made_between, made_named, named_at, one_entry, one_name, only_made, only_removed, removed_between}
use Rattle.cs_apm.proofs.EarlierTimes.{removes_by, touch, touches_by}
use Rattle.cs_apm.proofs.EarlierNeeds.{IsMadeAt, creates_says, made_again, says_creates, shares_found}

module _ (ops : List MicroOp) (syncs : List SyncPoint) (version : Version) (profile : Profile) (home : ℕ → Entry) (number : Entry → ℕ)
    (E : ℕ → Entries) (h : IsHistory ops home number E) where
  abbrev n : ℕ
  n = length ops

  abbrev pub now : ℕ → ℕ → Bool
  now = needs ops syncs version profile

  abbrev pub IsChained : ℕ → ℕ → Type 0
  IsChained i j = (m : ℕ) × Chain now m i j

  abbrev Why : ℕ → ℕ → Type 0
  Why i j = Reason ops syncs version profile i j

  need : (i j : ℕ) → i < j → Why i j → now i j ≡ true
  need i j order why = (needs_exactly ops syncs version profile i j).1 (record { before = order; reason = why })

  pub one : (i j : ℕ) → i < j → Why i j → IsChained i j
  one i j order why = (0, need i j order why)

  pub two : (i k j : ℕ) → i < k → k < j → Why i k → Why k j → IsChained i j
  two i k j first second why because = (1, (k, (need i k first why, need k j second because)))

  -- what sets a directory, and touches its entry later
  set_then_touch : (i j : ℕ) → i < j → j < n → (d : ℕ) (p : Path) (f : DirEntry) → SetsAt (op_at ops i) d p
      → Contains (dir_entries (op_at ops j)) f → f.path ≡ p → IsChained i j
  set_then_touch i j order high d p f sets w is =
      let low : i < n = omega (arith, order, high) in
      let nf = named_at ops home number E h j high f w in
      let leads : at_path (E i) p ≡ Some (Directory d) = subst (AreNamed (E i)) sets.1 (h.named i low) in
      let held = entry_at_path ops home number E h i j (omega (arith, low)) (omega (arith, high)) f d nf (ap (at_path (E i)) is ∙ leads) in
      let settles : Settles (op_at ops i) d = inr (p, sets.0, sets.1) in
      ⊎_elim
      (λ (still : E j (entry_of f) ≡ Some (Directory d)).
      (let gone = only_removed (E j) (op_at ops j) f d (h.legal j high) (h.plain j high) w still in
      one i j order (settles_one_directory d settles (inl (inr (removes_by (op_at ops j) (entry_of f) d gone))))))
      (λ (other : E j (entry_of f) ≢ Some (Directory d)).
      (let v = removed_between ops home number E h j i (entry_of f) d (omega (arith, order)) (omega (arith, high)) held other in
      let from = v.1 in
      let apart : i ≢ v.0 = λ same. (let x : Other ≡ Delete (entry_of f) (Directory d) = sym (ap entry_op sets.1)
      ∙ ap (entry_op_at ops) same ∙ v.3 in absurd (cc)) in
      two i v.0 j (omega (arith, from, apart)) v.2
      (settles_one_directory d settles (inl (inr (removes_by (op_at ops v.0) (entry_of f) d v.3))))
      (touches_one_entry (entry_of f) (touches_by (op_at ops v.0) (entry_of f) (Delete (entry_of f) (Directory d)) v.3
      (0, omega arith, refl))
      (touch (op_at ops j) f w))))
      (directory_cases (E j (entry_of f)) d)

  -- what touches the entry of a directory that is set later
  touch_then_set : (i j : ℕ) → i < j → j < n → (d : ℕ) (p : Path) (f : DirEntry) → Contains (dir_entries (op_at ops i)) f → f.path ≡ p
      → SetsAt (op_at ops j) d p → IsChained i j
  touch_then_set i j order high d p f w is sets =
      let low : i < n = omega (arith, order, high) in
      let nf = named_at ops home number E h i low f w in
      let leads : at_path (E j) p ≡ Some (Directory d) = subst (AreNamed (E j)) sets.1 (h.named j high) in
      let held = entry_at_path ops home number E h j i (omega (arith, high)) (omega (arith, low)) f d nf (ap (at_path (E j)) is ∙ leads) in
      let settles : Settles (op_at ops j) d = inr (p, sets.0, sets.1) in
      ⊎_elim
      (λ (there : E (suc i) (entry_of f) ≡ Some (Directory d)).
      (let made = only_made (E i) (op_at ops i) f d (h.legal i low) (h.plain i low) w (sym (h.step i low (entry_of f)) ∙ there) in
      one i j order (settles_one_directory d (inl (inl (creates_by (op_at ops i) (entry_of f) d made))) settles)))
      (λ (other : E (suc i) (entry_of f) ≢ Some (Directory d)).
      (let v = made_between ops home number E h j (suc i) (entry_of f) d (omega (arith, order)) (omega (arith, high)) other held in
      let from = v.1 in
      two i v.0 j (omega (arith, from)) v.2
      (touches_one_entry (entry_of f) (touch (op_at ops i) f w)
      (touches_by (op_at ops v.0) (entry_of f) (Create (entry_of f) (Directory d)) v.3 (0, omega arith, refl)))
      (settles_one_directory d (inl (inl (creates_by (op_at ops v.0) (entry_of f) d v.3))) settles)))
      (directory_cases (E (suc i) (entry_of f)) d)

  -- both name one path
  pub name_chained : (i j : ℕ) → i < j → j < n → before.shares_path (op_before (op_at ops i)) (op_before (op_at ops j)) ≡ true
      → IsChained i j
  name_chained i j order high is =
      let w = shares_found (op_at ops i) (op_at ops j) is in
      let low : i < n = omega (arith, order, high) in
      ⊎_elim
      (λ (f : (e : DirEntry) × Contains (dir_entries (op_at ops i)) e × (e.path ≡ w.path)). ⊎_elim
      (λ (g : (e : DirEntry) × Contains (dir_entries (op_at ops j)) e × (e.path ≡ w.path)).
      (let same = one_entry ops home number E h i j (omega (arith, low)) (omega (arith, high)) f.0 g.0
      (named_at ops home number E h i low f.0 f.1) (named_at ops home number E h j high g.0 g.1) (f.2 ∙ sym g.2) in
      one i j order (touches_one_entry (entry_of f.0) (touch (op_at ops i) f.0 f.1)
      (subst (Touches (op_at ops j)) (sym same) (touch (op_at ops j) g.0 g.1)))))
      (λ (g : (d : ℕ) × SetsAt (op_at ops j) d w.path). touch_then_set i j order high g.0 w.path f.0 f.1 f.2 g.1)
      (named_says (op_at ops j) w.path w.second))
      (λ (f : (d : ℕ) × SetsAt (op_at ops i) d w.path). ⊎_elim
      (λ (g : (e : DirEntry) × Contains (dir_entries (op_at ops j)) e × (e.path ≡ w.path)).
      set_then_touch i j order high f.0 w.path g.0 f.1 g.1 g.2)
      (λ (g : (d : ℕ) × SetsAt (op_at ops j) d w.path).
      (let x : at_path (E i) w.path ≡ Some (Directory f.0) = subst (AreNamed (E i)) f.1.1 (h.named i low) in
      let y : at_path (E j) w.path ≡ Some (Directory g.0) = subst (AreNamed (E j)) g.1.1 (h.named j high) in
      let same = one_directory home number (E i) (E j) (h.placed i (omega (arith, low))) (h.placed j (omega (arith, high))) w.path f.0 g.0
      x y in
      one i j order (settles_one_directory f.0 (inr (w.path, f.1.0, f.1.1))
      (subst (Settles (op_at ops j)) (sym same) (inr (w.path, g.1.0, g.1.1))))))
      (named_says (op_at ops j) w.path w.second))
      (named_says (op_at ops i) w.path w.first)

  -- ---- the latest create at a path

  record IsLatestAt (i j : ℕ) (q : Path) : Type 0 where
    made : IsMadeAt (op_at ops i) q
    last : (k : ℕ) → i < k → k < j → before.creates (op_before (op_at ops k)) q ≡ true → ⊥

  latest_at : (i j : ℕ) (q : Path) → before.is_latest (map op_before ops) i j q ≡ true → IsLatestAt i j q
  unfolding before.is_latest
  latest_at i j q is =
      let parts = and_parts (before.creates (before.op_at (map op_before ops) i) q)
      (not (list_any (λ k. before.creates (before.op_at (map op_before ops) k) q) (before.places_between i j))) is in
      record {
        made = creates_says (op_at ops i) q (sym (ap (λ o. before.creates o q) (at_before ops i)) ∙ parts.0);
        last = λ k from to made. false≢true (sym (ap not
            (any_between (λ k. before.creates (before.op_at (map op_before ops) k) q) (i + 1) (j - (i + 1)) k (omega (arith, from))
            (omega (arith, from, to))
            (ap (λ o. before.creates o q) (at_before ops k) ∙ made))) ∙ parts.1);
      }

  -- what is made last at the path of a directory that is there is the latest making of it
  latest_making : (i j : ℕ) → i < j → j < n → (q : Path) (c : ℕ) → at_path (E j) q ≡ Some (Directory c) → IsLatestAt i j q
      → IsLatestMaking ops i j c
  latest_making i j order high q c at latest = record {
    made = made;
    last = λ k from to w.
        (let k_low : k < n = omega (arith, to, high) in
        let named_k = made_named ops home number E h k k_low (Directory c) w in
        let there = made_after ops home number E h k k_low c w in
        let same = sym ((h.placed (suc k) (omega (arith, k_low))).at_home (entry_of w.0) c there)
        ∙ (h.placed j (omega (arith, high))).at_home (entry_of g) c held in
        let path = one_name ops home number E h k i (omega (arith, k_low)) (omega (arith, low)) w.0 g named_k named same in
        latest.last k from to (says_creates (op_at ops k) q (Directory c) w (path ∙ latest.made.path)));
  }
    where
      low : i < n
      low = omega (arith, order, high)

      g : DirEntry
      g = latest.made.entry

      first : Creates (op_at ops i) latest.made.node
      first = (latest.made.entry, latest.made.rights, latest.made.bytes, latest.made.is)

      named : IsNamed (E i) g
      named = made_named ops home number E h i low latest.made.node first

      held : E j (entry_of g) ≡ Some (Directory c)
      held = entry_at_path ops home number E h j i (omega (arith, high)) (omega (arith, low)) g c named
          (ap (at_path (E j)) latest.made.path ∙ at)

      here : IsNamed (E j) g
      here = held_named ops home number E h i j (omega (arith, low)) (omega (arith, high)) g (Directory c) named held

      again : (m : ℕ) × (i ≤ m) × (m < j) × Creates (op_at ops m) (Directory c)
      again = made_again ops home number E h i j order (omega (arith, high)) g c here held
          (record {
            entry = g;
            node = latest.made.node;
            rights = latest.made.rights;
            bytes = latest.made.bytes;
            is = latest.made.is;
            path =
                refl;
          })

      made : Creates (op_at ops i) (Directory c)
      made = ⊎_elim
          (λ (same : i ≡ again.0). subst (λ k. Creates (op_at ops k) (Directory c)) (sym same) again.3)
          (λ (other : i ≢ again.0).
          (let from = again.1 in let to = again.2 in
          let m_low : again.0 < n = omega (arith, to, high) in
          let w = again.3 in
          let named_m = made_named ops home number E h again.0 m_low (Directory c) w in
          let there = made_after ops home number E h again.0 m_low c w in
          let same = sym ((h.placed (suc again.0) (omega (arith, m_low))).at_home (entry_of w.0) c there)
          ∙ (h.placed j (omega (arith, high))).at_home (entry_of g) c held in
          let path = one_name ops home number E h again.0 i (omega (arith, m_low)) (omega (arith, low)) w.0 g named_m named same in
          absurd (latest.last again.0 (omega (arith, from, other)) to
          (says_creates (op_at ops again.0) q (Directory c) w (path ∙ latest.made.path)))))
          (cases_eq i again.0)

  -- nothing is in a directory just made
  empty_when_made : (i : ℕ) → i < n → (c d : ℕ) (name : List ℕ) → Creates (op_at ops i) (Directory c)
      → E (suc i) (entry_in c name) ≢ Some (Directory d)
  empty_when_made i low c d name w held =
      let legal = subst (λ o. IsLegalEntryOp (E i) (entry_op o)) w.3 (h.legal i low) in
      let new : (c ≢ 0) × ((f : Entry) → E i f ≢ Some (Directory c)) = legal.2 in
      let not_reached : IsReached (E i) Any c → ⊥ = λ r. past new.0 new.1 r.0 r.1 in
      ⊎_elim
      (λ (s : (entry_eq (entry_of w.0) (entry_in c name) ≡ true) × (entry_of w.0 ≡ entry_in c name)).
      not_reached (subst (λ (e : Entry). IsReached (E i) Any e.directory) s.1 legal.1))
      (λ (s : (entry_eq (entry_of w.0) (entry_in c name) ≡ false) × (entry_of w.0 ≢ entry_in c name)).
      (let was : E i (entry_in c name) ≡ Some (Directory d) =
      sym (put_other (E i) (entry_of w.0) (entry_in c name) (Some (Directory c)) s.1)
      ∙ sym (ap (λ o. after (E i) (entry_op o) (entry_in c name)) w.3) ∙ sym (h.step i low (entry_in c name)) ∙ held in
      not_reached ((h.placed i (omega (arith, low))).tree.reached (entry_in c name) (Directory d) was)))
      (entry_cases (entry_of w.0) (entry_in c name))
    where
      past : c ≢ 0 → ((f : Entry) → E i f ≢ Some (Directory c)) → (k : ℕ) → Way (E i) Any k c → ⊥
      past some none zero z = some z
      past some none (suc k) z = none z.0 z.1

  pub making_chained : (i j : ℕ) → i < j → j < n → before.makes_parent (map op_before ops) i j ≡ true → IsChained i j
  making_chained i j order high is =
      let w = any_found (λ p. before.is_latest (map op_before ops) i j (parent_path p))
      (before.paths_named (before.op_at (map op_before ops) j)) is in
      let latest = latest_at i j (parent_path w.0) w.2 in
      let low : i < n = omega (arith, order, high) in
      ⊎_elim
      (λ (f : (e : DirEntry) × Contains (dir_entries (op_at ops j)) e × (e.path ≡ w.0)).
      (let nf = named_at ops home number E h j high f.0 f.1 in
      let at : at_path (E j) (parent_path w.0) ≡ Some (Directory f.0.directory) = ap (λ p. at_path (E j) (parent_path p)) (sym f.2)
      ∙ nf.1 in
      one i j order (makes_directory (entry_of f.0) (touch (op_at ops j) f.0 f.1)
      (latest_making i j order high (parent_path w.0) f.0.directory at latest))))
      (λ (g : (d : ℕ) × SetsAt (op_at ops j) d w.0). ⊎_elim
      (λ (nil : w.0 ≡ []).
      (let named = made_named ops home number E h i low latest.made.node
      (latest.made.entry, latest.made.rights, latest.made.bytes, latest.made.is) in
      absurd (named.0 (latest.made.path ∙ ap parent_path nil))))
      (λ (more : IsMore w.0).
      (let leads : at_path (E j) w.0 ≡ Some (Directory g.0) = subst (AreNamed (E j)) g.1.1 (h.named j high) in
      let inside = in_directory (E j) more.front more.last (Directory g.0) (ap (at_path (E j)) (sym more.is) ∙ leads) in
      let q : parent_path w.0 ≡ more.front = ap parent_path more.is ∙ parent_of_snoc more.front more.last in
      let c = inside.directory in
      let making = latest_making i j order high (parent_path w.0) c (ap (at_path (E j)) q ∙ inside.above) latest in
      let x = entry_in c more.last in
      let v = made_between ops home number E h j (suc i) x g.0 (omega (arith, order)) (omega (arith, high))
      (empty_when_made i low c g.0 more.last making.made) inside.held in
      let from = v.1 in let to = v.2 in
      two i v.0 j (omega (arith, from)) to
      (makes_directory x (touches_by (op_at ops v.0) x (Create x (Directory g.0)) v.3 (0, omega arith, refl))
      (record { made = making.made; last = λ k behind ahead. making.last k behind (omega (arith, ahead, to)) }))
      (settles_one_directory g.0 (inl (inl (creates_by (op_at ops v.0) x g.0 v.3))) (inr (w.0, g.1.0, g.1.1)))))
      (last_cases w.0))
      (named_says (op_at ops j) w.0 (subst (λ o. Contains (before.paths_named o) w.0) (at_before ops j) w.1))
