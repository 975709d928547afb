-- A map from names to answers, as a finite map from names to numbers.
use Rattle.std.proofs.Common.{◌≡◌, ◌≢◌, ⊎_elim, Bool, true, false, Option, cond, None, Some, refl, sym, ap, ◌∙◌, length}
use Rattle.std.specs.BTreeMap.{BTreeMap, UpdatesBy, get_by_text}
use Rattle.std.specs.FinMap as map
use Rattle.std.specs.Ordering.{is_eq}
use Rattle.std.specs.Option.{option_map, is_some}
use Rattle.std.specs.String.{string_bytes, string_cmp}
use Rattle.std.specs.declared.string.String.{String}
use Rattle.cs_tree_model.specs.Laws.Nexts.{total, exact}
use Rattle.cs_tree_model.specs.Maps.Texts.{seen, get_seen, seen_insert}
use Rattle.cs_tree_model.specs.Tree.{NameBytes, name_cmp}
use Rattle.cs_tree_model.specs.Maps.Changes.{key_cases}
use Rattle.cs_tree_model.specs.Maps.Values.{get-map_values}
use Rattle.cs_overlay.proofs.Ranges.{none_of_none}
use Rattle.cs_overlay.specs.declared.answers.Answer.{Answer}
use Rattle.cs_overlay.specs.Texts.{numbers_of, AreNamed}

module _ {Y : Type 0} where
  pub get_number : (m : BTreeMap (String Y) Answer) (q : NameBytes)
      → map.get (numbers_of m.entries) q ≡ option_map (λ s. s.number) (get_by_text m q)
  get_number m q = get-map_values name_cmp (λ s. s.number) (seen m) q ∙ ap (option_map (λ (s : Answer). s.number)) (get_seen m q)

  pub numbers_insert : (m n : BTreeMap (String Y) Answer) (bs : NameBytes) (v : Answer)
      → UpdatesBy string_cmp (λ k. name_cmp bs (string_bytes k)) m n (Some v)
      → numbers_of n.entries ≡ map.insert (numbers_of m.entries) bs v.number
  numbers_insert m n bs v h = map.same_map total exact _ _ (λ cs. get_number n cs
      ∙ ap (option_map (λ (s : Answer). s.number))
      (sym (get_seen n cs) ∙ ap (λ w. map.get w cs) (seen_insert m n bs v h) ∙ map.get-insert total (seen m) bs v cs)
      ∙ by (is_eq (name_cmp cs bs)) (map.get (seen m) cs)
      ∙ ap (cond (is_eq (name_cmp cs bs)) (Some v.number))
      (ap (option_map (λ (s : Answer). s.number)) (get_seen m cs) ∙ sym (get_number m cs))
      ∙ sym (map.get-insert total (numbers_of m.entries) bs v.number cs))
    where
      by : (b : Bool) (o : Option Answer)
          → option_map (λ s. s.number) (cond b (Some v) o) ≡ cond b (Some v.number) (option_map (λ s. s.number) o)
      by true o = refl
      by false o = refl

  -- the answer for a name has the name, after one more
  pub named_insert : (m n : BTreeMap (String Y) Answer) (bs : NameBytes) (v : Answer)
      → UpdatesBy string_cmp (λ k. name_cmp bs (string_bytes k)) m n (Some v) → v.name ≡ bs → AreNamed (get_by_text m)
      → AreNamed (get_by_text n)
  named_insert m n bs v h own all cs s is = ⊎_elim
      (λ (one : (is_eq (name_cmp cs bs) ≡ true) × (cs ≡ bs)).
      let two : Some v ≡ Some s = sym (found cs ∙ ap (λ b. cond b (Some v) (get_by_text m cs)) one.0) ∙ is in
      let same : v ≡ s = cc in
      ap (λ (w : Answer). w.name) (sym same) ∙ own ∙ sym one.1)
      (λ (other : (is_eq (name_cmp cs bs) ≡ false) × (cs ≢ bs)). all cs s
      (sym (found cs ∙ ap (λ b. cond b (Some v) (get_by_text m cs)) other.0) ∙ is))
      (key_cases total exact cs bs)
    where
      found : (cs : NameBytes) → get_by_text n cs ≡ cond (is_eq (name_cmp cs bs)) (Some v) (get_by_text m cs)
      found cs =
          sym (get_seen n cs) ∙ ap (λ w. map.get w cs) (seen_insert m n bs v h) ∙ map.get-insert total (seen m) bs v cs ∙ ap
          (cond (is_eq (name_cmp cs bs)) (Some v)) (get_seen m cs)

  -- and the same names
  pub same_names : (m : BTreeMap (String Y) Answer) (q : NameBytes) → is_some (get_by_text m q) ≡ is_some (map.get (numbers_of m.entries) q)
  same_names m q = by (get_by_text m q) ∙ ap is_some (sym (get_number m q))
    where
      by : (o : Option Answer) → is_some o ≡ is_some (option_map (λ s. s.number) o)
      by None = refl
      by (Some s) = refl

  pub numbers_none : (m : BTreeMap (String Y) Answer) → length m.entries ≡ 0 → numbers_of m.entries ≡ map.empty
  numbers_none m none =
      map.same_map total exact _ _
      (λ q. get_number m q ∙ ap (option_map (λ (s : Answer). s.number)) (none_of_none _ m.entries none) ∙ sym (map.get-empty name_cmp q))
