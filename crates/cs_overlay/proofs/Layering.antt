-- What steps of the overlay are in the model, and for the look-ups by name.
use Rattle.std.proofs.Common.{◌≡◌, ◌≢◌, ℕ, ◌==◌, true, false, List, Option, None, Some, refl, sym, ap, ◌∙◌, subst, ⊎_elim}
use Rattle.std.proofs.lemmas.Bool.{false≢true, cases_eq, eq-eqb, ne_eqb}
use Rattle.std.specs.Option.{option_map, is_some}
use Rattle.cs_tree_model.specs.Laws.Lookups.{place_cases, set_kid_here, set_kid_other}
use Rattle.cs_tree_model.specs.Laws.Nexts.{total, exact}
use Rattle.cs_tree_model.specs.Lookups.{set_kid}
use Rattle.cs_tree_model.specs.Maps.Changes.{get-insert_same, get-insert_other}
use Rattle.cs_tree_model.specs.Table.{set_node, unset_node}
use Rattle.cs_tree_model.specs.Tree.{NameBytes, Tree, content_numbered}
use Rattle.cs_overlay.specs.declared.node.Body.{Body}
use Rattle.cs_overlay.specs.declared.node.Body.TheVariants.{Directory, File}
use Rattle.cs_overlay.specs.declared.node.Node.{Node}
use Rattle.cs_overlay.specs.Layers.{SameNodes, AreNodes, IsNode, HidesPast, Upper, body_with, content_over, layered_lookup, found_at}
use Rattle.cs_overlay.specs.Layers.{layer_at, layers, own_in, said_over, shape_over, step_at, with_at}

-- overlays that answer alike are one
pub one_upper : (c e : Upper) → SameNodes c e → c ≡ e
one_upper c e alike = λ i q. sym (alike q) i

-- ---- names for which a directory has an answer

pub content_said : (low : Option (List ℕ)) (b : Body) (x : NameBytes) (o : Option ℕ)
    → content_over low (body_with b x o) ≡ content_over low b
content_said low (Directory names) x o = refl
content_said low (File p) x o = refl

pub hides_said : (low : Option (List ℕ)) (b : Body) (x : NameBytes) (o : Option ℕ) → HidesPast low b → HidesPast low (body_with b x o)
hides_said low (Directory names) x o h = h
hides_said low (File p) x o h = h

pub said_here : (low : Option (List ℕ)) (b : Body) (x : NameBytes) (o : Option ℕ) → content_over low b ≡ None
    → own_in (body_with b x o) x ≡ Some o
said_here low (Directory names) x o dir = get-insert_same total exact names x o
said_here low (File p) x o dir = absurd (false≢true (sym (ap is_some dir)))

pub said_there : (b : Body) (x : NameBytes) (o : Option ℕ) (y : NameBytes) → y ≢ x → own_in (body_with b x o) y ≡ own_in b y
said_there (Directory names) x o y ne = get-insert_other total exact names y x o ne
said_there (File p) x o y ne = refl

module _ (t : Tree) (c : Upper) (k : ℕ) where
  pub with_at_here : (w : Option (Option Node)) → with_at c k w k ≡ w
  with_at_here w = let e : k == k ≡ true = eq-eqb k k refl in rw e refl

  pub with_at_other : (w : Option (Option Node)) (q : ℕ) → q ≢ k → with_at c k w q ≡ c q
  with_at_other w q ne = let e : k == q ≡ false = ne_eqb k q (λ f. ne (sym f)) in rw e refl

  pub step_here : (f : Node → Node) (d : Node) → c k ≡ Some (Some d) → step_at c k f ≡ with_at c k (Some (Some (f d)))
  step_here f d here = ap (λ w. with_at c k (option_map (option_map f) w)) here

  -- ---- in the model

  pub layers_put : (e : Node) → layers t (with_at c k (Some (Some e))) ≡ set_node (layers t c) k (shape_over (content_numbered t k) e)
  layers_put e = λ i q. each q i
    where
      each : (q : ℕ) → layers t (with_at c k (Some (Some e))) q ≡ set_node (layers t c) k (shape_over (content_numbered t k) e) q
      each q = ⊎_elim
          (λ (s : q ≡ k). let b : q == k ≡ true = eq-eqb q k s in
          rw b (ap (layers t (with_at c k (Some (Some e)))) s ∙ ap (layer_at t k) (with_at_here (Some (Some e)))))
          (λ (ne : q ≢ k). let b : q == k ≡ false = ne_eqb q k ne in rw b (ap (layer_at t q) (with_at_other (Some (Some e)) q ne)))
          (cases_eq q k)

  pub layers_gone : layers t (with_at c k (Some None)) ≡ unset_node (layers t c) k
  layers_gone = λ i q. each q i
    where
      each : (q : ℕ) → layers t (with_at c k (Some None)) q ≡ unset_node (layers t c) k q
      each q = ⊎_elim
          (λ (s : q ≡ k). let b : q == k ≡ true = eq-eqb q k s in
          rw b (ap (layers t (with_at c k (Some None))) s ∙ ap (layer_at t k) (with_at_here (Some None))))
          (λ (ne : q ≢ k). let b : q == k ≡ false = ne_eqb q k ne in rw b (ap (layer_at t q) (with_at_other (Some None) q ne)))
          (cases_eq q k)

  -- ---- for the look-ups

  found_there : (w : Option (Option Node)) (y : NameBytes) → layered_lookup t (with_at c k w) k y ≡ found_at t k y w
  found_there w y = ap (found_at t k y) (with_at_here w)

  found_elsewhere : (w : Option (Option Node)) (v : ℕ) (y : NameBytes) → v ≢ k
      → layered_lookup t (with_at c k w) v y ≡ layered_lookup t c v y
  found_elsewhere w v y ne = ap (found_at t v y) (with_at_other w v ne)

  -- an entry that answers as before changes no look-up
  pub found_stay : (w : Option (Option Node)) → ((y : NameBytes) → found_at t k y w ≡ layered_lookup t c k y)
      → layered_lookup t (with_at c k w) ≡ layered_lookup t c
  found_stay w same = λ i v y. each v y i
    where
      each : (v : ℕ) (y : NameBytes) → layered_lookup t (with_at c k w) v y ≡ layered_lookup t c v y
      each v y = ⊎_elim
          (λ (e : v ≡ k). ap (λ u. layered_lookup t (with_at c k w) u y) e ∙ found_there w y ∙ same y ∙ ap (λ u. layered_lookup t c u y)
          (sym e))
          (λ (ne : v ≢ k). found_elsewhere w v y ne)
          (cases_eq v k)

  pub found_same : (d e : Node) → c k ≡ Some (Some d) → ((y : NameBytes) → own_in e.body y ≡ own_in d.body y)
      → layered_lookup t (with_at c k (Some (Some e))) ≡ layered_lookup t c
  found_same d e here same = found_stay (Some (Some e)) (λ y. ap (said_over t k y) (same y) ∙ sym (ap (found_at t k y) here))

  -- an entry that answers otherwise under one name
  found_set : (e : Node) (x : NameBytes) (w : Option ℕ) → said_over t k x (own_in e.body x) ≡ w
      → ((y : NameBytes) → y ≢ x → said_over t k y (own_in e.body y) ≡ layered_lookup t c k y)
      → layered_lookup t (with_at c k (Some (Some e))) ≡ set_kid (layered_lookup t c) k x w
  found_set e x w new old = λ i v y. each v y i
    where
      each : (v : ℕ) (y : NameBytes) → layered_lookup t (with_at c k (Some (Some e))) v y ≡ set_kid (layered_lookup t c) k x w v y
      each v y = ⊎_elim
          (λ (here : (v ≡ k) × (y ≡ x)). (λ i. layered_lookup t (with_at c k (Some (Some e))) (here.0 i) (here.1 i)) ∙ found_there
          (Some (Some e)) x ∙ new ∙ sym
          ((λ i. set_kid (layered_lookup t c) k x w (here.0 i) (here.1 i)) ∙ set_kid_here (layered_lookup t c) k x w))
          (λ (other : (v ≡ k) × (y ≡ x) → ⊥). ⊎_elim
          (λ (s : v ≡ k). ap (λ u. layered_lookup t (with_at c k (Some (Some e))) u y) s ∙ found_there (Some (Some e)) y ∙ old y
          (λ f. other (s, f)) ∙ ap (λ u. layered_lookup t c u y) (sym s))
          (λ (ne : v ≢ k). found_elsewhere (Some (Some e)) v y ne)
          (cases_eq v k) ∙ sym (set_kid_other (layered_lookup t c) k x w v y other))
          (place_cases k x v y)

  -- a directory with the answer o for x
  pub found_said : (d e : Node) → c k ≡ Some (Some d) → content_over (content_numbered t k) d.body ≡ None → (x : NameBytes) (o : Option ℕ)
      → e.body ≡ body_with d.body x o → layered_lookup t (with_at c k (Some (Some e))) ≡ set_kid (layered_lookup t c) k x o
  found_said d e here directory x o is = found_set e x o
      (ap (λ b. said_over t k x (own_in b x)) is ∙ ap (said_over t k x) (said_here (content_numbered t k) d.body x o directory))
      (λ y ne. ap (λ b. said_over t k y (own_in b y)) is ∙ ap (said_over t k y) (said_there d.body x o y ne) ∙ sym
      (ap (found_at t k y) here))

  -- ---- each node by itself

  pub nodes_put : AreNodes t c → (e : Node) → IsNode (content_numbered t k) k e → AreNodes t (with_at c k (Some (Some e)))
  nodes_put nodes e node n d is = ⊎_elim
      (λ (s : n ≡ k).
      let two : Some (Some e) ≡ Some (Some d) = sym (ap (with_at c k (Some (Some e))) s ∙ with_at_here (Some (Some e))) ∙ is in
      let one : e ≡ d = (let three : Some e ≡ Some d = cc in cc) in
      subst (λ q. IsNode (content_numbered t q) q d) (sym s) (subst (IsNode (content_numbered t k) k) one node))
      (λ (ne : n ≢ k). nodes n d (sym (with_at_other (Some (Some e)) n ne) ∙ is))
      (cases_eq n k)

  pub nodes_gone : AreNodes t c → AreNodes t (with_at c k (Some None))
  nodes_gone nodes n d is = ⊎_elim
      (λ (s : n ≡ k).
      let two : Some None ≡ Some (Some d) = sym (ap (with_at c k (Some None)) s ∙ with_at_here (Some None)) ∙ is in
      let three : None ≡ Some d = cc in
      absurd (false≢true (ap is_some three)))
      (λ (ne : n ≢ k). nodes n d (sym (with_at_other (Some None) n ne) ∙ is))
      (cases_eq n k)
