-- A copy of a lower file shows what the lower tree has.
use Rattle.std.proofs.Common.{◌≡◌, ◌≢◌, ◌==◌, ℕ, true, false, cond, List, [], ◌∷◌, Option, None, Some, IsSome, refl, sym, ap, ◌∙◌, subst}
use Rattle.std.proofs.Common.{⊎_elim, unwrap_or}
use Rattle.std.proofs.lemmas.Bool.{false≢true, cases_eq, eq-eqb, ne_eqb}
use Rattle.std.specs.Option.{option_map, option_and_then, is_some}
use Rattle.std.specs.List as list
use Rattle.std.specs.FinMap.{entries}
use Rattle.cs_tree_model.specs.declared.record.Record.{Record}
use Rattle.cs_tree_model.specs.declared.record.MetadataBuf.{MetadataBuf}
use Rattle.cs_tree_model.specs.declared.record.Kind.TheVariants as kinds
use Rattle.cs_tree_model.specs.Record.{metadata_of, kind_of, record_of}
use Rattle.cs_tree_model.specs.Tree.{NameBytes, Path, Tree, IsTree, record_numbered, path_numbered, parent_numbered, content_numbered}
use Rattle.cs_tree_model.specs.Tree.{name_numbered, last_name}
use Rattle.cs_tree_model.specs.Table.{node_at}
use Rattle.cs_tree_model.specs.Laws.Numbers.{has_number}
use Rattle.cs_tree_model.specs.Laws.Round.{found_in}
use Rattle.cs_overlay.specs.declared.node.Node.{Node}
use Rattle.cs_overlay.specs.Layers.{Upper, content_over, layers, layer_at, layered_lookup, found_at, said_over, own_in}
use Rattle.cs_overlay.specs.Layers.{HidesPast, IsNode, IsCopy, SameLayers, SameNodes, with_at}

ends : (p : Path) → p ≢ [] → IsSome (last_name p)
ends [] ne = absurd (ne refl)
ends (x ∷ []) ne = refl
ends (x ∷ y ∷ p) ne = ends (y ∷ p) (λ e. (cc))

-- only the root's path has no names
pub not_root : (t : Tree) → IsTree t → (n : ℕ) → n ≢ 0 → path_numbered t n ≢ Some []
not_root t h n z e =
    let f = found_in t h n [] e in
    let one : f.0 ≡ h.root.0 = (let two : Some f.0 ≡ Some h.root.0 = sym f.1 ∙ h.root.1 in cc) in
    z (sym f.2 ∙ ap (λ (r : Record). r.number) one ∙ h.root.3)

-- what the calls of the lower store say makes the node
module _ (t : Tree) (n : ℕ) (m : MetadataBuf) (record_is : Some m ≡ option_map metadata_of (record_numbered t n)) (u : ℕ)
    (parent_is : Some u ≡ parent_numbered t n)
    (name : Option NameBytes) (name_is : name ≡ name_numbered t n) (d : Node) (kept : d.metadata ≡ m) (kept_name : d.name ≡ name)
    (up : d.parent ≡ u)
    (content : (low : Option (List ℕ)) → d.metadata.kind ≡ kind_of low → content_over low d.body ≡ low)
    (hides : (low : Option (List ℕ)) → HidesPast low d.body)
    (own : (x : NameBytes) → own_in d.body x ≡ None) (root : n ≢ 0 → path_numbered t n ≢ Some []) where
  pub copy_of : IsCopy t n d
  copy_of = by (list.find (has_number n) (entries t.files)) refl
    where
      by : (o : Option (Path × Record)) → list.find (has_number n) (entries t.files) ≡ o → IsCopy t n d
      by None e = absurd (false≢true (sym (ap is_some (record_is ∙ ap (λ w. option_map metadata_of (option_map (λ e. e.1) w)) e))))
      by (Some e) is =
          let r = e.1 in
          let the_record : record_numbered t n ≡ Some r = ap (option_map (λ e. e.1)) is in
          let the_path : path_numbered t n ≡ Some e.0 = ap (option_map (λ e. e.0)) is in
          let same : d.metadata ≡ metadata_of r =
          kept ∙ (let two : Some m ≡ Some (metadata_of r) = record_is ∙ ap (option_map metadata_of) the_record in cc) in
          let low : content_numbered t n ≡ r.content = ap (option_and_then (λ (v : Record). v.content)) the_record in
          let kind : d.metadata.kind ≡ kind_of (content_numbered t n) = ap (λ (v : MetadataBuf). v.kind) same ∙ ap kind_of (sym low) in
          let shown : content_over (content_numbered t n) d.body ≡ r.content = content (content_numbered t n) kind ∙ low in
          let the_name : d.name ≡ last_name e.0 = kept_name ∙ name_is ∙ ap (option_and_then last_name) the_path in
          record {
            shape = (λ i. node_at (the_path i) (sym parent_is i) (the_record i))
                ∙ (λ i. Some (record {
                  parent = sym up i;
                  name = unwrap_or (sym the_name i) [];
                  file = record_of (sym same i) (sym shown i);
                }));
            node = record {
              kind = kind ∙ ap kind_of (sym (content (content_numbered t n) kind));
              named = λ z. subst IsSome (sym the_name) (ends e.0 (λ f. root z (the_path ∙ ap Some f)));
              hides = hides (content_numbered t n);
            };
            own = own;
          }

-- ---- what no read shows

pub same_alike : (t : Tree) (c e : Upper) → ((q : ℕ) → e q ≡ c q) → SameLayers t c e
same_alike t c e alike = record {
  layer = λ n. ap (layer_at t n) (alike n);
  finds = λ u x. ap (found_at t u x) (alike u);
  nodes = λ all n d is. all n d (sym (alike n) ∙ is);
}

pub same_trans : (t : Tree) (c m e : Upper) → SameLayers t c m → SameLayers t m e → SameLayers t c e
same_trans t c m e one two = record {
  layer = λ n. two.layer n ∙ one.layer n;
  finds = λ u x. two.finds u x ∙ one.finds u x;
  nodes = λ all. two.nodes (one.nodes all);
}

module _ (t : Tree) (c e : Upper) (n : ℕ) (none : c n ≡ None) (d : Node) (copy : IsCopy t n d)
    (goes : SameNodes (with_at c n (Some (Some d))) e) where
  copied : e n ≡ Some (Some d)
  copied = goes n ∙ (let t : n == n ≡ true = eq-eqb n n refl in ap (λ b. cond b (Some (Some d)) (c n)) t)

  kept : (q : ℕ) → q ≢ n → e q ≡ c q
  kept q ne = goes q ∙ (let t : n == q ≡ false = ne_eqb n q (λ f. ne (sym f)) in ap (λ b. cond b (Some (Some d)) (c q)) t)

  pub same_copied : SameLayers t c e
  same_copied = record {
    layer = λ q. ⊎_elim
        (λ (f : q ≡ n). ap (layers t e) f ∙ ap (layer_at t n) copied ∙ sym copy.shape ∙ ap (layer_at t n) (sym none) ∙ ap (layers t c)
        (sym f))
        (λ (ne : q ≢ n). ap (layer_at t q) (kept q ne))
        (cases_eq q n);
    finds = λ u x. ⊎_elim
        (λ (f : u ≡ n). ap (λ v. layered_lookup t e v x) f ∙ ap (found_at t n x) copied ∙ ap (said_over t n x) (copy.own x) ∙ ap
        (found_at t n x) (sym none) ∙ ap (λ v. layered_lookup t c v x) (sym f))
        (λ (ne : u ≢ n). ap (found_at t u x) (kept u ne))
        (cases_eq u n);
    nodes = λ all q v is. ⊎_elim
        (λ (f : q ≡ n).
        let one : d ≡ v =
        (let two : Some (Some d) ≡ Some (Some v) = sym copied ∙ ap e (sym f) ∙ is in let three : Some d ≡ Some v = cc in cc) in
        subst (λ k. IsNode (content_numbered t k) k v) (sym f) (subst (IsNode (content_numbered t n) n) one copy.node))
        (λ (ne : q ≢ n). all q v (sym (kept q ne) ∙ is))
        (cases_eq q n);
  }
