-- Paths and numbers of directories that are never moved and are always made at one entry.
use Rattle.std.proofs.Common.{◌≡◌, ◌≢◌, ℕ, zero, suc, ◌+◌, ◌-◌, ◌≤◌, ◌==◌, true, false, [], ◌∷◌, ◌++◌, length, length-append}
use Rattle.std.proofs.Common.{Some, refl, sym, ap, ◌∙◌, ⊎_elim, ◌⊎◌, arith, take}
use Rattle.std.proofs.lemmas.Bool.{cases_eq, eq-eqb, false≢true, ne_eqb}
use Rattle.std.proofs.lemmas.List.{take_all, take_more}
use Rattle.std.specs.Ordering.{eq_by_cmp}
use Rattle.cs_names.specs.Paths.{path_eq, path_ties}
use Rattle.cs_tree_model.specs.Laws.Paths.{path_cases}
use Rattle.cs_tree_model.specs.Tree.{Path, parent_path, path_cmp}
use Rattle.cs_entries.specs.declared.entry.DirEntry.{DirEntry}
use Rattle.cs_entries.specs.declared.entry.Entry.{Entry}
use Rattle.cs_entries.specs.declared.node.Node.TheVariants.{Directory}
use Rattle.cs_entries.specs.DirEntries.{IsNamed, entry_of, last_name}
use Rattle.cs_entries.specs.Entries.{Entries, entry_eq}
use Rattle.cs_entries.specs.Legal.{IsTree}
use Rattle.cs_entries.specs.Paths.{at_path, entry_in}
use Rattle.cs_entries.specs.Laws.One.{entry_cases, same_number}
use Rattle.cs_entries.specs.Laws.Paths.{IsMore, at_more, in_directory, last_cases}

-- a tree in which each directory is at its own entry, and each entry has a directory of its own
pub record IsPlaced (home : ℕ → Entry) (number : Entry → ℕ) (m : Entries) : Type 0 where
  pub tree : IsTree m
  pub at_home : (e : Entry) (d : ℕ) → m e ≡ Some (Directory d) → home d ≡ e
  pub numbered : (e : Entry) (d : ℕ) → m e ≡ Some (Directory d) → number e ≡ d

pub path_same : (p q : Path) → p ≡ q → path_eq p q ≡ true
path_same p q is = ⊎_elim
    (λ (one : (eq_by_cmp path_cmp p q ≡ true) × (p ≡ q)). path_ties p q ∙ one.0)
    (λ (two : (eq_by_cmp path_cmp p q ≡ false) × (p ≢ q)). absurd (two.1 is))
    (path_cases p q)

pub path_other : (p q : Path) → p ≢ q → path_eq p q ≡ false
path_other p q other = ⊎_elim
    (λ (one : (eq_by_cmp path_cmp p q ≡ true) × (p ≡ q)). absurd (other one.1))
    (λ (two : (eq_by_cmp path_cmp p q ≡ false) × (p ≢ q)). path_ties p q ∙ two.0)
    (path_cases p q)

pub path_from : (p q : Path) → path_eq p q ≡ true → p ≡ q
path_from p q is = ⊎_elim
    (λ (one : (eq_by_cmp path_cmp p q ≡ true) × (p ≡ q)). one.1)
    (λ (two : (eq_by_cmp path_cmp p q ≡ false) × (p ≢ q)). absurd (false≢true (sym (path_ties p q ∙ two.0) ∙ is)))
    (path_cases p q)

-- a path that has a name is its directory's and that name
pub whole_path : (p : Path) → p ≢ [] → parent_path p ++ last_name p ∷ [] ≡ p
whole_path [] some = absurd (some refl)
whole_path (x ∷ p) some =
    let n = length (x ∷ p) - 1 in
    let more : n + 1 ≡ length (x ∷ p) = omega arith in
    sym (take_more (x ∷ p) n [] (omega arith)) ∙ ap (λ k. take k (x ∷ p)) more ∙ take_all (length (x ∷ p)) (x ∷ p) (omega arith)

-- the path of an entry that is named leads to what it holds
pub named_holds : (m : Entries) (e : DirEntry) → IsNamed m e → at_path m e.path ≡ m (entry_of e)
named_holds m e named =
    ap (at_path m) (sym (whole_path e.path named.0)) ∙ at_more m (parent_path e.path) (last_name e.path) e.directory named.1

-- ---- two times

module _ (home : ℕ → Entry) (number : Entry → ℕ) (m n : Entries) (pm : IsPlaced home number m) (pn : IsPlaced home number n) where
  root_of : (k : Entries) (r : Path) (d : ℕ) → r ≡ [] → at_path k r ≡ Some (Directory d) → d ≡ 0
  root_of k r d e h = same_number d 0 (sym h ∙ ap (at_path k) e)

  not_root : (k : Entries) → IsTree k → (r : Path) (d : ℕ) → IsMore r → d ≡ 0 → at_path k r ≡ Some (Directory d) → ⊥
  not_root k tree r d w z h =
      (let i = in_directory k w.front w.last (Directory d) (ap (at_path k) (sym w.is) ∙ h) in
      tree.root (entry_in i.directory w.last) (i.held ∙ ap (λ c. Some (Directory c)) z))

  -- a directory has one path
  pub same_path : (k : ℕ) (p q : Path) (d : ℕ) → length p ≤ k → at_path m p ≡ Some (Directory d)
      → at_path n q ≡ Some (Directory d) → p ≡ q
  same_path zero p q d long at_p at_q = ⊎_elim
      (λ (ep : p ≡ []). ⊎_elim
      (λ (eq : q ≡ []). ep ∙ sym eq)
      (λ (wq : IsMore q). absurd (not_root n pn.tree q d wq (root_of m p d ep at_p) at_q))
      (last_cases q))
      (λ (wp : IsMore p). absurd (omega (arith, long, ap length wp.is, length-append wp.front (wp.last ∷ []))))
      (last_cases p)
  same_path (suc k) p q d long at_p at_q = ⊎_elim
      (λ (ep : p ≡ []). ⊎_elim
      (λ (eq : q ≡ []). ep ∙ sym eq)
      (λ (wq : IsMore q). absurd (not_root n pn.tree q d wq (root_of m p d ep at_p) at_q))
      (last_cases q))
      (λ (wp : IsMore p). ⊎_elim
      (λ (eq : q ≡ []). absurd (not_root m pm.tree p d wp (root_of n q d eq at_q) at_p))
      (λ (wq : IsMore q).
      (let i = in_directory m wp.front wp.last (Directory d) (ap (at_path m) (sym wp.is) ∙ at_p) in
      let j = in_directory n wq.front wq.last (Directory d) (ap (at_path n) (sym wq.is) ∙ at_q) in
      let e : entry_in i.directory wp.last ≡ entry_in j.directory wq.last =
      sym (pm.at_home (entry_in i.directory wp.last) d i.held) ∙ pn.at_home (entry_in j.directory wq.last) d j.held in
      let above : at_path n wq.front ≡ Some (Directory i.directory) =
      j.above ∙ ap (λ (f : Entry). Some (Directory f.directory)) (sym e) in
      let front = same_path k wp.front wq.front i.directory
      (omega (arith, long, ap length wp.is, length-append wp.front (wp.last ∷ []))) i.above above in
      wp.is ∙ (λ t. front t ++ (e t).name ∷ []) ∙ sym wq.is))
      (last_cases q))
      (last_cases p)

  -- a path has one directory
  pub same_directory : (k : ℕ) (p : Path) (c d : ℕ) → length p ≤ k → at_path m p ≡ Some (Directory c)
      → at_path n p ≡ Some (Directory d) → c ≡ d
  same_directory zero p c d long at_m at_n = ⊎_elim
      (λ (ep : p ≡ []). root_of m p c ep at_m ∙ sym (root_of n p d ep at_n))
      (λ (wp : IsMore p). absurd (omega (arith, long, ap length wp.is, length-append wp.front (wp.last ∷ []))))
      (last_cases p)
  same_directory (suc k) p c d long at_m at_n = ⊎_elim
      (λ (ep : p ≡ []). root_of m p c ep at_m ∙ sym (root_of n p d ep at_n))
      (λ (wp : IsMore p).
      (let i = in_directory m wp.front wp.last (Directory c) (ap (at_path m) (sym wp.is) ∙ at_m) in
      let j = in_directory n wp.front wp.last (Directory d) (ap (at_path n) (sym wp.is) ∙ at_n) in
      let above = same_directory k wp.front i.directory j.directory
      (omega (arith, long, ap length wp.is, length-append wp.front (wp.last ∷ []))) i.above j.above in
      sym (pm.numbered (entry_in i.directory wp.last) c i.held)
      ∙ ap (λ x. number (entry_in x wp.last)) above
      ∙ pn.numbered (entry_in j.directory wp.last) d j.held))
      (last_cases p)

  pub one_directory : (p : Path) (c d : ℕ) → at_path m p ≡ Some (Directory c) → at_path n p ≡ Some (Directory d) → c ≡ d
  one_directory p c d at_m at_n = same_directory (length p) p c d (omega arith) at_m at_n

  pub one_path : (p q : Path) (d : ℕ) → at_path m p ≡ Some (Directory d) → at_path n q ≡ Some (Directory d) → p ≡ q
  one_path p q d at_p at_q = same_path (length p) p q d (omega arith) at_p at_q

  -- directories by their numbers and by their paths
  pub directory_test : (p q : Path) (c d : ℕ) → at_path m p ≡ Some (Directory c) → at_path n q ≡ Some (Directory d)
      → (c == d) ≡ path_eq p q
  directory_test p q c d at_p at_q = ⊎_elim
      (λ (same : c ≡ d).
      eq-eqb c d same ∙ sym (path_same p q (one_path p q d (at_p ∙ ap (λ x. Some (Directory x)) same) at_q)))
      (λ (other : c ≢ d).
      ne_eqb c d other ∙ sym (path_other p q (λ same. other (one_directory q c d (ap (at_path m) (sym same) ∙ at_p) at_q))))
      (cases_eq c d)

  -- entries by what they are and by their paths
  pub entries_same : (a b : DirEntry) → IsNamed m a → IsNamed n b → a.path ≡ b.path → entry_of a ≡ entry_of b
  entries_same a b na nb is =
      let number_same = one_directory (parent_path a.path) a.directory b.directory na.1 (ap (λ p. at_path n (parent_path p)) is ∙ nb.1) in
      λ i. record { directory = number_same i; name = last_name (is i) }

  pub paths_same : (a b : DirEntry) → IsNamed m a → IsNamed n b → entry_of a ≡ entry_of b → a.path ≡ b.path
  paths_same a b na nb is =
      let above = one_path (parent_path a.path) (parent_path b.path) b.directory
      (na.1 ∙ ap (λ (e : Entry). Some (Directory e.directory)) is) nb.1 in
      sym (whole_path a.path na.0) ∙ (λ i. above i ++ (is i).name ∷ []) ∙ whole_path b.path nb.0

  pub entry_test : (a b : DirEntry) → IsNamed m a → IsNamed n b → entry_eq (entry_of a) (entry_of b) ≡ path_eq a.path b.path
  entry_test a b na nb = ⊎_elim
      (λ (one : (entry_eq (entry_of a) (entry_of b) ≡ true) × (entry_of a ≡ entry_of b)).
      one.0 ∙ sym (path_same a.path b.path (paths_same a b na nb one.1)))
      (λ (two : (entry_eq (entry_of a) (entry_of b) ≡ false) × (entry_of a ≢ entry_of b)).
      two.0 ∙ sym (path_other a.path b.path (λ is. two.1 (entries_same a b na nb is))))
      (entry_cases (entry_of a) (entry_of b))
