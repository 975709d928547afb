-- The list of what is below a directory has what its paths lead to.
use Rattle.std.proofs.Common.{◌≡◌, ℕ, zero, suc, ◌<◌, ◌==◌, true, false, cond, List, [], ◌∷◌}
use Rattle.std.proofs.Common.{◌++◌, length, ◌⊎◌, inl, inr, Option, None, Some, refl, sym, ap, ◌∙◌, subst, arith, ⊎_elim}
use Rattle.std.proofs.lemmas.Bool.{cases_Bool, eqb-true, eq-eqb}
use Rattle.std.proofs.Math.Seq.{append_snoc}
use Rattle.std.specs.List.{flat_map}
use Rattle.cs_tree_model.specs.Tree.{Path}
use Rattle.cs_entries.specs.Entries.{Entries, Entry}
use Rattle.cs_entries.specs.Paths.{entry_in, down}
use Rattle.cs_entries.specs.Tables.{below, below_entry, below_if}
use Rattle.cs_entries.specs.Laws.One.{no_node}
use Rattle.cs_entries.specs.declared.node.Node.{Node}
use Rattle.cs_entries.specs.declared.node.Node.TheVariants.{Directory, File}
use Rattle.cs_entries.specs.declared.node.FileKind.{FileKind}

pub node_of : (v node : Node) → Some v ≡ Some node → v ≡ node
node_of v node h = ap (unwrap_or_this v) h
  where
    unwrap_or_this : Node → Option Node → Node
    unwrap_or_this w None = w
    unwrap_or_this w (Some x) = x

-- x is in the list
abbrev pub In : {X : Type 0} → X → List X → Type 0
In x [] = ⊥
In x (y ∷ ys) = (x ≡ y) ⊎ In x ys

pub in_left : {X : Type 0} (x : X) (ys zs : List X) → In x ys → In x (ys ++ zs)
in_left x [] zs h = absurd h
in_left x (y ∷ ys) zs h =
    ⊎_elim (λ (e : x ≡ y). inl e) (λ (l : In x ys). inr (in_left x ys zs l)) h

pub in_right : {X : Type 0} (x : X) (ys zs : List X) → In x zs → In x (ys ++ zs)
in_right x [] zs h = h
in_right x (y ∷ ys) zs h = inr (in_right x ys zs h)

pub in_either : {X : Type 0} (x : X) (ys zs : List X) → In x (ys ++ zs) → In x ys ⊎ In x zs
in_either x [] zs h = inr h
in_either x (y ∷ ys) zs h = ⊎_elim
    (λ (e : x ≡ y). inl (inl e))
    (λ (l : In x (ys ++ zs)). ⊎_elim (λ (a : In x ys). inl (inr a)) (λ (b : In x zs). inr b)
    (in_either x ys zs l))
    h

pub in_flat_map : {X Y : Type 0} (f : X → List Y) (xs : List X) (x : X) (y : Y) → In x xs → In y (f x)
    → In y (flat_map f xs)
in_flat_map f [] x y h l = absurd h
in_flat_map f (z ∷ zs) x y h l = ⊎_elim
    (λ (e : x ≡ z). in_left y (f z) (flat_map f zs) (subst (λ w. In y (f w)) e l))
    (λ (r : In x zs). in_right y (f z) (flat_map f zs) (in_flat_map f zs x y r l))
    h

pub flat_map_in : {X Y : Type 0} (f : X → List Y) (xs : List X) (y : Y) → In y (flat_map f xs)
    → (x : X) × In x xs × In y (f x)
flat_map_in f [] y h = absurd h
flat_map_in f (z ∷ zs) y h = ⊎_elim
    (λ (l : In y (f z)). (z, inl refl, l))
    (λ (r : In y (flat_map f zs)). (let w = flat_map_in f zs y r in (w.0, inr w.1, w.2)))
    (in_either y (f z) (flat_map f zs) h)

pub down_nothing : (m : Entries) (path : Path) → down m None path ≡ None
down_nothing m [] = refl
down_nothing m (x ∷ path) = down_nothing m path

down_file : (m : Entries) (kind : FileKind) (file : ℕ) (x : List ℕ) (path : Path)
    → down m (Some (File kind file)) (x ∷ path) ≡ None
down_file m kind file x path = down_nothing m path

module _ (m : Entries) (es : List (Entry × Node)) where
  -- a listed path leads to its node
  module _ (there : (e : Entry) (node : Node) → In (e, node) es → m e ≡ Some node) where
    pub listed_leads : (n : ℕ) (p : Path) (d : ℕ) (q : Path) (v : Node) → In (q, v) (below es n p d)
        → (r : Path) × (q ≡ p ++ r) × (down m (Some (Directory d)) r ≡ Some v)
    listed_leads zero p d q v h = absurd h
    listed_leads (suc n) p d q v h =
        (let w = flat_map_in (below_if (below es n) p d) es (q, v) h in
        by w.0.0 w.0.1 (there w.0.0 w.0.1 w.1) (listed_leads n) w.2)
      where
        by : (e : Entry) (node : Node) → m e ≡ Some node
            → ((p : Path) (d : ℕ) (q : Path) (v : Node) → In (q, v) (below es n p d)
            → (r : Path) × (q ≡ p ++ r) × (down m (Some (Directory d)) r ≡ Some v))
            → In (q, v) (below_if (below es n) p d (e, node))
            → (r : Path) × (q ≡ p ++ r) × (down m (Some (Directory d)) r ≡ Some v)
        by e node is more l = ⊎_elim
            (λ (yes : (e.directory == d) ≡ true).
            (let at : m (entry_in d e.name) ≡ Some node =
            ap (λ c. m (entry_in c e.name)) (sym (eqb-true e.directory d yes)) ∙ is in
            here node at (subst (In (q, v)) (ap (λ b. cond b (below_entry (below es n) p (e, node)) []) yes) l)))
            (λ (no_entry : (e.directory == d) ≡ false).
            absurd (subst (In (q, v)) (ap (λ b. cond b (below_entry (below es n) p (e, node)) []) no_entry) l))
            (cases_Bool (e.directory == d))
          where
            name_down : (node : Node) → m (entry_in d e.name) ≡ Some node
                → down m (Some (Directory d)) (e.name ∷ []) ≡ Some node
            name_down node at = at

            first : (node : Node) → m (entry_in d e.name) ≡ Some node
                → ◌≡◌ {A = Path × Node} (q, v) (p ++ e.name ∷ [], node)
                → (r : Path) × (q ≡ p ++ r) × (down m (Some (Directory d)) r ≡ Some v)
            first node at s =
                (e.name ∷ [], ap (λ x. x.0) s, name_down node at ∙ ap (λ x. Some x.1) (sym s))

            here : (node : Node) → m (entry_in d e.name) ≡ Some node
                → In (q, v) (below_entry (below es n) p (e, node))
                → (r : Path) × (q ≡ p ++ r) × (down m (Some (Directory d)) r ≡ Some v)
            here (Directory c) at l = ⊎_elim
                (λ (s : ◌≡◌ {A = Path × Node} (q, v) (p ++ e.name ∷ [], Directory c)). first (Directory c) at s)
                (λ (r : In (q, v) (below es n (p ++ e.name ∷ []) c)).
                (let w = more (p ++ e.name ∷ []) c q v r in (
                  e.name ∷ w.0,
                  w.1 ∙ append_snoc p e.name w.0,
                  ap (λ o. down m o w.0) at ∙ w.2,
                )))
                l
            here (File kind file) at l = ⊎_elim
                (λ (s : ◌≡◌ {A = Path × Node} (q, v) (p ++ e.name ∷ [], File kind file)). first (File kind file) at s)
                (λ (none : ⊥). absurd none)
                l

  -- a node that a path leads to is listed
  module _ (listed : (e : Entry) (node : Node) → m e ≡ Some node → In (e, node) es) where
    in_below : (more : Path → ℕ → List (Path × Node)) (p : Path) (d : ℕ) (name : List ℕ) (node : Node) (x : Path × Node)
        → In x (below_entry more p (entry_in d name, node))
        → In x (below_if more p d (entry_in d name, node))
    in_below more p d name node x h =
        subst (In x) (sym (ap (λ b. cond b (below_entry more p (entry_in d name, node)) []) (eq-eqb d d refl))) h

    pub leads_listed : (n : ℕ) (p : Path) (d : ℕ) (x : List ℕ) (r : Path) (v : Node) → length r < n
        → down m (Some (Directory d)) (x ∷ r) ≡ Some v → In (p ++ x ∷ r, v) (below es n p d)
    leads_listed zero p d x r v lt h = absurd (omega (arith, lt))
    leads_listed (suc n) p d x r v lt h = by (m (entry_in d x)) refl r lt h (leads_listed n)
      where
        by : (o : Option Node) → m (entry_in d x) ≡ o → (r : Path) → length r < suc n
            → down m o r ≡ Some v
            → ((p : Path) (d : ℕ) (x : List ℕ) (r : Path) (v : Node) → length r < n
            → down m (Some (Directory d)) (x ∷ r) ≡ Some v → In (p ++ x ∷ r, v) (below es n p d))
            → In (p ++ x ∷ r, v) (below es (suc n) p d)
        by None is r lt h more = absurd (no_node v (sym (down_nothing m r) ∙ h))
        by (Some (File kind file)) is [] lt h more =
            in_flat_map (below_if (below es n) p d) es (entry_in d x, File kind file) (p ++ x ∷ [], v)
            (listed (entry_in d x) (File kind file) is)
            (in_below (below es n) p d x (File kind file) (p ++ x ∷ [], v)
            (inl (λ i. (p ++ x ∷ [], node_of v (File kind file) (sym h) i))))
        by (Some (File kind file)) is (y ∷ r) lt h more = absurd (no_node v (sym (down_nothing m r) ∙ h))
        by (Some (Directory c)) is [] lt h more =
            in_flat_map (below_if (below es n) p d) es (entry_in d x, Directory c) (p ++ x ∷ [], v)
            (listed (entry_in d x) (Directory c) is)
            (in_below (below es n) p d x (Directory c) (p ++ x ∷ [], v)
            (inl (λ i. (p ++ x ∷ [], node_of v (Directory c) (sym h) i))))
        by (Some (Directory c)) is (y ∷ r) lt h more =
            in_flat_map (below_if (below es n) p d) es (entry_in d x, Directory c) (p ++ x ∷ y ∷ r, v)
            (listed (entry_in d x) (Directory c) is)
            (in_below (below es n) p d x (Directory c) (p ++ x ∷ y ∷ r, v)
            (inr (subst (λ q. In (q, v) (below es n (p ++ x ∷ []) c)) (append_snoc p x (y ∷ r))
            (more (p ++ x ∷ []) c y r v (omega (arith, lt)) h))))
