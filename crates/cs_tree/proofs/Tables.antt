-- What steps of the table of nodes are in the model, and what they do to look-ups by name.
use Rattle.std.proofs.Common.{◌≡◌, ◌≢◌, ℕ, ◌==◌, true, false, Option, None, Some, refl, sym, ap, ◌∙◌, subst, ⊎_elim}
use Rattle.std.proofs.lemmas.Bool.{false≢true, cases_eq, eq-eqb, ne_eqb}
use Rattle.std.specs.Option.{option_map, option_and_then, is_some}
use Rattle.cs_tree_model.specs.Laws.Lookups.{place_cases, set_kid_here, set_kid_other}
use Rattle.cs_tree_model.specs.Laws.Nexts.{total, exact}
use Rattle.cs_tree_model.specs.Lookups.{set_kid}
use Rattle.cs_tree_model.specs.Maps.Changes.{get-insert_same, get-insert_other, get-remove_same, get-remove_other}
use Rattle.cs_tree_model.specs.Table as table
use Rattle.cs_tree_model.specs.Table.{set_node, unset_node}
use Rattle.cs_tree_model.specs.Tree.{NameBytes}
use Rattle.cs_tree.specs.declared.node.Body.{Body}
use Rattle.cs_tree.specs.declared.node.Body.TheVariants.{Directory, File}
use Rattle.cs_tree.specs.declared.node.Node.{Node}
use Rattle.cs_tree.specs.Held.{model_nodes, child_lookup, IsNode}
use Rattle.cs_tree.specs.Node.{Alike, body_with_child, body_without_child, child_in, content_of, shape_of, step_at, with_at}

-- tables that answer alike are the same
pub one_table : (at bt : ℕ → Option Node) → Alike at bt → at ≡ bt
one_table at bt alike = λ i q. sym (alike q) i

module _ (at : ℕ → Option Node) (k : ℕ) where
  pub with_at_here : (w : Option Node) → with_at at k w k ≡ w
  with_at_here w = let t : k == k ≡ true = eq-eqb k k refl in rw t refl

  pub with_at_other : (w : Option Node) (q : ℕ) → q ≢ k → with_at at k w q ≡ at q
  with_at_other w q ne = let t : k == q ≡ false = ne_eqb k q (λ e. ne (sym e)) in rw t refl

  pub step_here : (f : Node → Node) (d : Node) → at k ≡ Some d → step_at at k f ≡ with_at at k (Some (f d))
  step_here f d here = ap (λ w. with_at at k (option_map f w)) here

  -- ---- in the model

  pub shapes_put : (e : Node) → model_nodes (with_at at k (Some e)) ≡ set_node (model_nodes at) k (shape_of e)
  shapes_put e = λ i q. each q i
    where
      each : (q : ℕ) → model_nodes (with_at at k (Some e)) q ≡ set_node (model_nodes at) k (shape_of e) q
      each q = ⊎_elim
          (λ (s : q ≡ k). let t : q == k ≡ true = eq-eqb q k s in
          rw t (ap (model_nodes (with_at at k (Some e))) s ∙ ap (option_map shape_of) (with_at_here (Some e))))
          (λ (ne : q ≢ k). let t : q == k ≡ false = ne_eqb q k ne in rw t (ap (option_map shape_of) (with_at_other (Some e) q ne)))
          (cases_eq q k)

  pub shapes_gone : model_nodes (with_at at k None) ≡ unset_node (model_nodes at) k
  shapes_gone = λ i q. each q i
    where
      each : (q : ℕ) → model_nodes (with_at at k None) q ≡ unset_node (model_nodes at) k q
      each q = ⊎_elim
          (λ (s : q ≡ k). let t : q == k ≡ true = eq-eqb q k s in
          rw t (ap (model_nodes (with_at at k None)) s ∙ ap (option_map shape_of) (with_at_here None)))
          (λ (ne : q ≢ k). let t : q == k ≡ false = ne_eqb q k ne in rw t (ap (option_map shape_of) (with_at_other None q ne)))
          (cases_eq q k)

  -- ---- for the look-ups

  kids_there : (w : Option Node) (y : NameBytes) → child_lookup (with_at at k w) k y ≡ option_and_then (λ o. child_in o.body y) w
  kids_there w y = ap (option_and_then (λ o. child_in o.body y)) (with_at_here w)

  kids_elsewhere : (w : Option Node) (v : ℕ) (y : NameBytes) → v ≢ k → child_lookup (with_at at k w) v y ≡ child_lookup at v y
  kids_elsewhere w v y ne = ap (option_and_then (λ o. child_in o.body y)) (with_at_other w v ne)

  -- the children that the node k has
  kids_at : (d : Node) → at k ≡ Some d → (y : NameBytes) → child_lookup at k y ≡ child_in d.body y
  kids_at d here y = ap (option_and_then (λ o. child_in o.body y)) here

  -- a node that answers as before changes no look-up
  kids_stay : (w : Option Node) → ((y : NameBytes) → option_and_then (λ o. child_in o.body y) w ≡ child_lookup at k y)
      → child_lookup (with_at at k w) ≡ child_lookup at
  kids_stay w same = λ i v y. each v y i
    where
      each : (v : ℕ) (y : NameBytes) → child_lookup (with_at at k w) v y ≡ child_lookup at v y
      each v y = ⊎_elim
          (λ (e : v ≡ k). ap (λ u. child_lookup (with_at at k w) u y) e ∙ kids_there w y ∙ same y ∙ ap (λ u. child_lookup at u y) (sym e))
          (λ (ne : v ≢ k). kids_elsewhere w v y ne)
          (cases_eq v k)

  pub kids_same : (d e : Node) → at k ≡ Some d → ((y : NameBytes) → child_in e.body y ≡ child_in d.body y)
      → child_lookup (with_at at k (Some e)) ≡ child_lookup at
  kids_same d e here same = kids_stay (Some e) (λ y. same y ∙ sym (kids_at d here y))

  pub kids_new : (e : Node) → at k ≡ None → ((y : NameBytes) → child_in e.body y ≡ None)
      → child_lookup (with_at at k (Some e)) ≡ child_lookup at
  kids_new e none childless = kids_stay (Some e) (λ y. childless y ∙ sym (ap (option_and_then (λ o. child_in o.body y)) none))

  pub kids_gone : ((y : NameBytes) → child_lookup at k y ≡ None) → child_lookup (with_at at k None) ≡ child_lookup at
  kids_gone leaf = kids_stay None (λ y. sym (leaf y))

  -- a node that answers otherwise under one name
  kids_set : (e : Node) (x : NameBytes) (w : Option ℕ) → child_in e.body x ≡ w
      → ((y : NameBytes) → y ≢ x → child_in e.body y ≡ child_lookup at k y)
      → child_lookup (with_at at k (Some e)) ≡ set_kid (child_lookup at) k x w
  kids_set e x w new old = λ i v y. each v y i
    where
      each : (v : ℕ) (y : NameBytes) → child_lookup (with_at at k (Some e)) v y ≡ set_kid (child_lookup at) k x w v y
      each v y = ⊎_elim
          (λ (here : (v ≡ k) × (y ≡ x)). (λ i. child_lookup (with_at at k (Some e)) (here.0 i) (here.1 i)) ∙ kids_there (Some e) x ∙ new ∙
          sym ((λ i. set_kid (child_lookup at) k x w (here.0 i) (here.1 i)) ∙ set_kid_here (child_lookup at) k x w))
          (λ (other : (v ≡ k) × (y ≡ x) → ⊥). ⊎_elim
          (λ (s : v ≡ k). ap (λ u. child_lookup (with_at at k (Some e)) u y) s ∙ kids_there (Some e) y ∙ old y (λ f. other (s, f)) ∙ ap
          (λ u. child_lookup at u y) (sym s))
          (λ (ne : v ≢ k). kids_elsewhere (Some e) v y ne)
          (cases_eq v k) ∙ sym (set_kid_other (child_lookup at) k x w v y other))
          (place_cases k x v y)

  pub kids_with : (d e : Node) → at k ≡ Some d → content_of d.body ≡ None → (x : NameBytes) (n : ℕ) → e.body ≡ body_with_child d.body x n
      → child_lookup (with_at at k (Some e)) ≡ set_kid (child_lookup at) k x (Some n)
  kids_with d e here directory x n is =
      kids_set e x (Some n) (ap (λ b. child_in b x) is ∙ child_new d.body directory)
      (λ y ne. ap (λ b. child_in b y) is ∙ child_old d.body y ne ∙ sym (kids_at d here y))
    where
      child_new : (b : Body) → content_of b ≡ None → child_in (body_with_child b x n) x ≡ Some n
      child_new (Directory m) dir = get-insert_same total exact m x n
      child_new (File bytes) dir = absurd (false≢true (sym (ap is_some dir)))

      child_old : (b : Body) (y : NameBytes) → y ≢ x → child_in (body_with_child b x n) y ≡ child_in b y
      child_old (Directory m) y ne = get-insert_other total exact m y x n ne
      child_old (File bytes) y ne = refl

  pub kids_without : (d e : Node) → at k ≡ Some d → (x : NameBytes) → e.body ≡ body_without_child d.body x
      → child_lookup (with_at at k (Some e)) ≡ set_kid (child_lookup at) k x None
  kids_without d e here x is =
      kids_set e x None (ap (λ b. child_in b x) is ∙ child_gone d.body)
      (λ y ne. ap (λ b. child_in b y) is ∙ child_old d.body y ne ∙ sym (kids_at d here y))
    where
      child_gone : (b : Body) → child_in (body_without_child b x) x ≡ None
      child_gone (Directory m) = get-remove_same total exact m x
      child_gone (File bytes) = refl

      child_old : (b : Body) (y : NameBytes) → y ≢ x → child_in (body_without_child b x) y ≡ child_in b y
      child_old (Directory m) y ne = get-remove_other total exact m y x ne
      child_old (File bytes) y ne = refl

  -- ---- each node by itself

  pub nodes_put : ((n : ℕ) (c : Node) → at n ≡ Some c → IsNode n c) → (e : Node) → IsNode k e → (n : ℕ) (c : Node)
      → with_at at k (Some e) n ≡ Some c → IsNode n c
  nodes_put nodes e node n c is = ⊎_elim
      (λ (s : n ≡ k).
      let one : e ≡ c = (let two : Some e ≡ Some c = sym (ap (with_at at k (Some e)) s ∙ with_at_here (Some e)) ∙ is in cc) in
      subst (λ q. IsNode q c) (sym s) (subst (IsNode k) one node))
      (λ (ne : n ≢ k). nodes n c (sym (with_at_other (Some e) n ne) ∙ is))
      (cases_eq n k)

  pub nodes_gone : ((n : ℕ) (c : Node) → at n ≡ Some c → IsNode n c) → (n : ℕ) (c : Node) → with_at at k None n ≡ Some c → IsNode n c
  nodes_gone nodes n c is = ⊎_elim
      (λ (s : n ≡ k). absurd (false≢true (ap is_some (sym (ap (with_at at k None) s ∙ with_at_here None) ∙ is))))
      (λ (ne : n ≢ k). nodes n c (sym (with_at_other None n ne) ∙ is))
      (cases_eq n k)

-- a directory keeps its content, whatever its children are
pub content_with_child : (b : Body) (x : NameBytes) (n : ℕ) → content_of (body_with_child b x n) ≡ content_of b
content_with_child (Directory m) x n = refl
content_with_child (File bytes) x n = refl

pub content_without_child : (b : Body) (x : NameBytes) → content_of (body_without_child b x) ≡ content_of b
content_without_child (Directory m) x = refl
content_without_child (File bytes) x = refl

-- a node that the model has is one of the program's
pub node_behind : (at : ℕ → Option Node) (n : ℕ) (d : table.Node) → model_nodes at n ≡ Some d → (c : Node) × (at n ≡ Some c)
    × (shape_of c ≡ d)
node_behind at n d is = by (at n) refl is
  where
    by : (o : Option Node) → at n ≡ o → option_map shape_of o ≡ Some d → (c : Node) × (at n ≡ Some c) × (shape_of c ≡ d)
    by None e is = absurd (false≢true (ap is_some is))
    by (Some c) e is = (c, e, (let two : Some (shape_of c) ≡ Some d = is in cc))
