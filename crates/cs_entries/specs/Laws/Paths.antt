-- In a tree each entry is at one path, and each directory too.
use Rattle.std.proofs.Common.{◌≡◌, ℕ, zero, suc, List, [], ◌∷◌, ◌++◌, length}
use Rattle.std.proofs.Common.{◌⊎◌, inl, inr, Option, None, Some, refl, sym, ap, ◌∙◌, ◌≤◌, arith, ⊎_elim}
use Rattle.std.proofs.Common.{length-append}
use Rattle.cs_entries.specs.Entries.{Entries, Entry}
use Rattle.cs_entries.specs.Legal.{Way, Any, IsTree}
use Rattle.cs_entries.specs.Paths.{entry_in, in_node, down, at_path}
use Rattle.cs_entries.specs.Laws.One.{same_number, no_node}
use Rattle.cs_entries.specs.declared.node.Node.{Node}
use Rattle.cs_entries.specs.declared.node.Node.TheVariants.{Directory, File}

pub down_more : (m : Entries) (held : Option Node) (path : List (List ℕ)) (name : List ℕ)
    → down m held (path ++ name ∷ []) ≡ in_node m (down m held path) name
down_more m held [] name = refl
down_more m held (x ∷ path) name = down_more m (in_node m held x) path name

-- a path is empty, or ends in a name
pub record IsMore (path : List (List ℕ)) : Type 0 where
  pub front : List (List ℕ)
  pub last : List ℕ
  pub is : path ≡ front ++ last ∷ []

pub last_cases : (path : List (List ℕ)) → (path ≡ []) ⊎ IsMore path
last_cases [] = inl refl
last_cases (x ∷ path) = ⊎_elim
    (λ (e : path ≡ []). inr (record { front = []; last = x; is = ap (λ p. x ∷ p) e }))
    (λ (w : IsMore path). inr (record {
      front = x ∷ w.front;
      last = w.last;
      is = ap (λ p. x ∷ p) w.is;
    }))
    (last_cases path)

-- what is at a path that ends in a name is in the directory at its front
pub record IsIn (m : Entries) (path : List (List ℕ)) (name : List ℕ) (node : Node) : Type 0 where
  pub directory : ℕ
  pub above : at_path m path ≡ Some (Directory directory)
  pub held : m (entry_in directory name) ≡ Some node

pub in_directory : (m : Entries) (path : List (List ℕ)) (name : List ℕ) (node : Node)
    → at_path m (path ++ name ∷ []) ≡ Some node → IsIn m path name node
in_directory m path name node h =
    by (at_path m path) refl (sym (down_more m (Some (Directory 0)) path name) ∙ h)
  where
    by : (o : Option Node) → at_path m path ≡ o → in_node m o name ≡ Some node → IsIn m path name node
    by None is w = absurd (no_node node w)
    by (Some (Directory d)) is w = record { directory = d; above = is; held = w }
    by (Some (File kind file)) is w = absurd (no_node node w)

pub at_more : (m : Entries) (path : List (List ℕ)) (name : List ℕ) (d : ℕ) → at_path m path ≡ Some (Directory d)
    → at_path m (path ++ name ∷ []) ≡ m (entry_in d name)
at_more m path name d h =
    down_more m (Some (Directory 0)) path name ∙ ap (λ o. in_node m o name) h

-- a directory that is reached has a path
pub path_of_way : (m : Entries) (k d : ℕ) → Way m Any k d → (path : List (List ℕ))
    × (at_path m path ≡ Some (Directory d))
path_of_way m zero d w = ([], ap (λ c. Some (Directory c)) (sym w))
path_of_way m (suc k) d w =
    (let up = path_of_way m k w.0.directory w.3 in
    (up.0 ++ w.0.name ∷ [], at_more m up.0 w.0.name w.0.directory up.1 ∙ w.1))

module _ (m : Entries) (tree : IsTree m) where
  below_root : (r : List (List ℕ)) (d : ℕ) → IsMore r → d ≡ 0 → at_path m r ≡ Some (Directory d) → ⊥
  below_root r d w z h =
      (let i = in_directory m w.front w.last (Directory d) (ap (at_path m) (sym w.is) ∙ h) in
      tree.root (entry_in i.directory w.last) (i.held ∙ ap (λ c. Some (Directory c)) z))

  at_root : (r : List (List ℕ)) (d : ℕ) → r ≡ [] → at_path m r ≡ Some (Directory d) → d ≡ 0
  at_root r d e h = same_number d 0 (sym h ∙ ap (at_path m) e)

  -- a directory has one path
  pub one_path : (n : ℕ) (p q : List (List ℕ)) (d : ℕ) → length p ≤ n → at_path m p ≡ Some (Directory d)
      → at_path m q ≡ Some (Directory d) → p ≡ q
  one_path zero p q d long at_p at_q = ⊎_elim
      (λ (ep : p ≡ []). ⊎_elim
      (λ (eq : q ≡ []). ep ∙ sym eq)
      (λ (wq : IsMore q). absurd (below_root q d wq (at_root p d ep at_p) at_q))
      (last_cases q))
      (λ (wp : IsMore p). absurd (omega (arith, long, ap length wp.is, length-append wp.front (wp.last ∷ []))))
      (last_cases p)
  one_path (suc n) p q d long at_p at_q = ⊎_elim
      (λ (ep : p ≡ []). ⊎_elim
      (λ (eq : q ≡ []). ep ∙ sym eq)
      (λ (wq : IsMore q). absurd (below_root q d wq (at_root p d ep at_p) at_q))
      (last_cases q))
      (λ (wp : IsMore p). ⊎_elim
      (λ (eq : q ≡ []). absurd (below_root p d wp (at_root q d eq at_q) at_p))
      (λ (wq : IsMore q).
      (let i = in_directory m wp.front wp.last (Directory d) (ap (at_path m) (sym wp.is) ∙ at_p) in
      let j = in_directory m wq.front wq.last (Directory d) (ap (at_path m) (sym wq.is) ∙ at_q) in
      let e = tree.one (entry_in i.directory wp.last) (entry_in j.directory wq.last) d i.held j.held in
      let above : at_path m wq.front ≡ Some (Directory i.directory) =
      j.above ∙ ap (λ f. Some (Directory f.directory)) (sym e) in
      let front = one_path n wp.front wq.front i.directory
      (omega (arith, long, ap length wp.is, length-append wp.front (wp.last ∷ []))) i.above above in
      wp.is ∙ (λ t. front t ++ (e t).name ∷ []) ∙ sym wq.is))
      (last_cases q))
      (last_cases p)

  -- each entry that is left has one path: that of its directory, and its name
  pub entry_path : (e : Entry) (node : Node) → m e ≡ Some node → (path : List (List ℕ))
      × (at_path m path ≡ Some (Directory e.directory))
      × (at_path m (path ++ e.name ∷ []) ≡ Some node)
      × ((q : List (List ℕ)) → at_path m q ≡ Some (Directory e.directory) → path ≡ q)
  entry_path e node is =
      (let w = tree.reached e node is in
      let p = path_of_way m w.0 e.directory w.1 in (
        p.0,
        p.1,
        at_more m p.0 e.name e.directory p.1 ∙ is,
        (λ q h. one_path (length p.0) p.0 q e.directory (omega arith) p.1 h),
      ))
