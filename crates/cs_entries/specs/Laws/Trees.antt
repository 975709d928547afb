-- A legal operation leaves a tree.
use Rattle.std.proofs.Common.{◌≡◌, ◌≢◌, ℕ, zero, suc, true, false}
use Rattle.std.proofs.Common.{◌⊎◌, inl, inr, Option, None, Some, refl, sym, ap, ◌∙◌, subst, ⊎_elim}
use Rattle.cs_entries.specs.Entries.{Entries, Entry, entry_eq, put, after}
use Rattle.cs_entries.specs.Entries.{EntryOp, Create, Link, Delete, Move, Other}
use Rattle.cs_entries.specs.Legal.{Way, Any, IsReached, IsTree, IsNew, IsBare, IsLegal}
use Rattle.cs_entries.specs.Laws.One.{entry_cases, put_here, put_other, same_number, no_node, no_directory}
use Rattle.cs_entries.specs.declared.node.Node.{Node}
use Rattle.cs_entries.specs.declared.node.Node.TheVariants.{Directory, File}

-- a way whose entries hold the same in other entries is one there
pub way_kept : (m n : Entries) (p q : Entry → Type 0)
    → ((f : Entry) (d : ℕ) → m f ≡ Some (Directory d) → p f → (n f ≡ Some (Directory d)) × q f) → (k d : ℕ)
    → Way m p k d → Way n q k d
way_kept m n p q more zero d w = w
way_kept m n p q more (suc k) d w =
    let there = more w.0 d w.1 w.2 in
    (w.0, there.0, there.1, way_kept m n p q more k w.0.directory w.3)

-- no way to a directory goes through an entry that holds none, or an empty one that isn't it
pub way_past : (m : Entries) (p : Entry → Type 0) (b : Entry) → IsBare m (m b) → (k d : ℕ)
    → m b ≢ Some (Directory d) → Way m p k d → Way m (λ f. (p f) × (f ≢ b)) k d
way_past m p b bare zero d other w = w
way_past m p b bare (suc k) d other w = (
  w.0,
  w.1,
  (w.2, (λ e. other (sym (ap m e) ∙ w.1))),
  way_past m p b bare k w.0.directory
      (λ held. no_node (Directory d) (sym (bare w.0.directory held w.0 refl) ∙ w.1)) w.3,
)

-- what is in a directory that an entry holds, the directory isn't empty
pub not_in_bare : (m : Entries) (b q : Entry) (node : Node) → IsBare m (m b) → m q ≡ Some node
    → m b ≢ Some (Directory q.directory)
not_in_bare m b q node bare is held = no_node node (sym (bare q.directory held q refl) ∙ is)

-- what an entry that holds no directory, or an empty one, is given keeps other ways
pub put_reached : (m : Entries) (b : Entry) (held : Option Node) → IsBare m (m b) → (d : ℕ)
    → m b ≢ Some (Directory d) → IsReached m Any d → IsReached (put m b held) Any d
put_reached m b held bare d other w = (
  w.0,
  way_kept m (put m b held) (λ f. (Any f) × (f ≢ b)) Any
      (λ f c is passes. (put_other m b f held (λ e. passes.1 (sym e)) ∙ is, tt)) w.0 d
      (way_past m Any b bare w.0 d other w.1),
)

-- an entry that holds no directory, or an empty one, is given something
pub put_tree : (m : Entries) (b : Entry) (held : Option Node) → IsTree m → IsBare m (m b)
    → ((node : Node) → held ≡ Some node → IsReached m Any b.directory × (m b ≢ Some (Directory b.directory)))
    → ((d : ℕ) → held ≡ Some (Directory d) → (d ≢ 0) × ((f : Entry) → f ≢ b → m f ≢ Some (Directory d)))
    → IsTree (put m b held)
put_tree m b held tree bare live new = record {
  reached = λ q node is. ⊎_elim
      (λ (e : (entry_eq b q ≡ true) × (b ≡ q)).
      (let now : held ≡ Some node = sym (put_here m b held) ∙ ap (put m b held) e.1 ∙ is in
      let w = live node now in
      subst (λ f. IsReached (put m b held) Any f.directory) e.1
      (put_reached m b held bare b.directory w.1 w.0)))
      (λ (e : (entry_eq b q ≡ false) × (b ≢ q)).
      (let was = sym (put_other m b q held e.1) ∙ is in
      put_reached m b held bare q.directory (not_in_bare m b q node bare was)
      (tree.reached q node was)))
      (entry_cases b q);
  one = λ q r d hq hr. ⊎_elim
      (λ (e : (entry_eq b q ≡ true) × (b ≡ q)). ⊎_elim
      (λ (g : (entry_eq b r ≡ true) × (b ≡ r)). sym e.1 ∙ g.1)
      (λ (g : (entry_eq b r ≡ false) × (b ≢ r)). absurd
      ((new d (sym (put_here m b held) ∙ ap (put m b held) e.1 ∙ hq)).1 r (λ w. g.1 (sym w))
      (sym (put_other m b r held g.1) ∙ hr)))
      (entry_cases b r))
      (λ (e : (entry_eq b q ≡ false) × (b ≢ q)). ⊎_elim
      (λ (g : (entry_eq b r ≡ true) × (b ≡ r)). absurd
      ((new d (sym (put_here m b held) ∙ ap (put m b held) g.1 ∙ hr)).1 q (λ w. e.1 (sym w))
      (sym (put_other m b q held e.1) ∙ hq)))
      (λ (g : (entry_eq b r ≡ false) × (b ≢ r)). tree.one q r d
      (sym (put_other m b q held e.1) ∙ hq) (sym (put_other m b r held g.1) ∙ hr))
      (entry_cases b r))
      (entry_cases b q);
  root = λ q h. ⊎_elim
      (λ (e : (entry_eq b q ≡ true) × (b ≡ q)).
      (new 0 (sym (put_here m b held) ∙ ap (put m b held) e.1 ∙ h)).0 refl)
      (λ (e : (entry_eq b q ≡ false) × (b ≢ q)). tree.root q (sym (put_other m b q held e.1) ∙ h))
      (entry_cases b q);
}

no_directory_there : (m : Entries) (b : Entry) → ((d : ℕ) → m b ≢ Some (Directory d)) → IsBare m (m b)
no_directory_there m b none d h = absurd (none d h)

free_bare : (m : Entries) (b : Entry) → m b ≡ None → IsBare m (m b)
free_bare m b free d h = absurd (no_node (Directory d) (sym free ∙ h))

-- ---- a move

module _ (m : Entries) (a b : Entry) (node : Node) (tree : IsTree m) (apart : a ≢ b)
    (from : m a ≡ Some node) (bare : IsBare m (m b))
    (to : IsReached m (λ f. f ≢ a) b.directory) where
  abbrev left : Entries
  left = put (put m a None) b (m a)

  at_b : left b ≡ m a
  at_b = put_here (put m a None) b (m a)

  at_a : left a ≡ None
  at_a = put_other (put m a None) b a (m a) (λ e. apart (sym e)) ∙ put_here m a None

  elsewhere : (q : Entry) → a ≢ q → b ≢ q → left q ≡ m q
  elsewhere q na nb = put_other (put m a None) b q (m a) nb ∙ put_other m a q None na

  -- b isn't in the directory that it holds
  not_itself : m b ≢ Some (Directory b.directory)
  not_itself held = by to.0 to.1
    where
      by : (k : ℕ) → Way m (λ f. f ≢ a) k b.directory → ⊥
      by zero w = tree.root b (held ∙ ap (λ d. Some (Directory d)) w)
      by (suc k) w =
          no_node (Directory b.directory)
          (sym (bare b.directory held b refl) ∙ held)

  target_reached : IsReached left Any b.directory
  target_reached = (
    to.0,
    way_kept m left (λ f. (f ≢ a) × (f ≢ b)) Any
        (λ f c is passes. (elsewhere f (λ e. passes.0 (sym e)) (λ e. passes.1 (sym e)) ∙ is, tt)) to.0 b.directory
        (way_past m (λ f. f ≢ a) b bare to.0 b.directory not_itself to.1),
  )

  others_reached : (k d : ℕ) → m b ≢ Some (Directory d) → Way m Any k d → IsReached left Any d
  others_reached zero d other w = (0, w)
  others_reached (suc k) d other w = ⊎_elim
      (λ (e : (entry_eq a w.0 ≡ true) × (a ≡ w.0)).
      (suc target_reached.0, (b, at_b ∙ ap m e.1 ∙ w.1, tt, target_reached.1)))
      (λ (e : (entry_eq a w.0 ≡ false) × (a ≢ w.0)).
      (let above = others_reached k w.0.directory (not_in_bare m b w.0 (Directory d) bare w.1) w.3 in
      (suc above.0, (w.0, elsewhere w.0 e.1 (λ g. other (ap m g ∙ w.1)) ∙ w.1, tt, above.1))))
      (entry_cases a w.0)

  place : (q : Entry) (v : Node) → left q ≡ Some v
      → ((b ≡ q) × (m a ≡ Some v)) ⊎ ((a ≢ q) × (b ≢ q) × (m q ≡ Some v))
  place q v is = ⊎_elim
      (λ (e : (entry_eq b q ≡ true) × (b ≡ q)). inl (e.1, sym at_b ∙ ap left e.1 ∙ is))
      (λ (e : (entry_eq b q ≡ false) × (b ≢ q)). ⊎_elim
      (λ (g : (entry_eq a q ≡ true) × (a ≡ q)). absurd (no_node v (sym at_a ∙ ap left g.1 ∙ is)))
      (λ (g : (entry_eq a q ≡ false) × (a ≢ q)). inr (g.1, e.1, sym (elsewhere q g.1 e.1) ∙ is))
      (entry_cases a q))
      (entry_cases b q)

  pub move_tree : IsTree left
  move_tree = record {
    reached = λ q v is. ⊎_elim
        (λ (h : (b ≡ q) × (m a ≡ Some v)). subst (λ f. IsReached left Any f.directory) h.0 target_reached)
        (λ (h : (a ≢ q) × (b ≢ q) × (m q ≡ Some v)).
        (let w = tree.reached q v h.2 in
        others_reached w.0 q.directory (not_in_bare m b q v bare h.2) w.1))
        (place q v is);
    one = λ q r d hq hr. ⊎_elim
        (λ (h : (b ≡ q) × (m a ≡ Some (Directory d))). ⊎_elim
        (λ (g : (b ≡ r) × (m a ≡ Some (Directory d))). sym h.0 ∙ g.0)
        (λ (g : (a ≢ r) × (b ≢ r) × (m r ≡ Some (Directory d))). absurd (g.0 (tree.one a r d h.1 g.2)))
        (place r (Directory d) hr))
        (λ (h : (a ≢ q) × (b ≢ q) × (m q ≡ Some (Directory d))). ⊎_elim
        (λ (g : (b ≡ r) × (m a ≡ Some (Directory d))). absurd (h.0 (tree.one a q d g.1 h.2)))
        (λ (g : (a ≢ r) × (b ≢ r) × (m r ≡ Some (Directory d))). tree.one q r d h.2 g.2)
        (place r (Directory d) hr))
        (place q (Directory d) hq);
    root = λ q h. ⊎_elim
        (λ (g : (b ≡ q) × (m a ≡ Some (Directory 0))). tree.root a g.1)
        (λ (g : (a ≢ q) × (b ≢ q) × (m q ≡ Some (Directory 0))). tree.root q g.2)
        (place q (Directory 0) h);
  }

-- ---- each operation

pub tree_after : (m : Entries) (o : EntryOp) → IsTree m → IsLegal m o → IsTree (after m o)
tree_after m (Create e node) tree l =
    put_tree m e (Some node) tree (free_bare m e l.0)
    (λ v is. (l.1, (λ held. no_node (Directory e.directory) (sym l.0 ∙ held))))
    (new node l.2)
  where
    new : (node : Node) → IsNew m node → (d : ℕ) → Some node ≡ Some (Directory d)
        → (d ≢ 0) × ((f : Entry) → f ≢ e → m f ≢ Some (Directory d))
    new (Directory c) h d is =
        (let same = same_number c d is in
        ((λ z. h.0 (same ∙ z)), (λ f other held. h.1 f (held ∙ ap (λ k. Some (Directory k)) (sym same)))))
    new (File kind file) h d is = absurd (no_directory kind file d is)
tree_after m (Link e kind file) tree l =
    put_tree m e (Some (File kind file)) tree (no_directory_there m e l.0)
    (λ v is. (l.1, l.0 e.directory))
    (λ d is. absurd (no_directory kind file d is))
tree_after m (Delete e node) tree l =
    put_tree m e None tree (subst (IsBare m) (sym l.0) l.1)
    (λ v is. absurd (no_node v is))
    (λ d is. absurd (no_node (Directory d) is))
tree_after m (Move a b node old) tree l =
    move_tree m a b node tree l.0 l.1 (subst (IsBare m) (sym l.2) l.3) l.4
tree_after m Other tree l = tree
