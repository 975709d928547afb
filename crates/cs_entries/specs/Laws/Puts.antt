-- What is put into an entry, or taken away, changes what is at its path and nothing else, where no
-- directory that has entries is put or taken: so the paths of versions 1 to 3 are maps of paths.
use Rattle.std.proofs.Common.{◌≡◌, ◌≢◌, ℕ, zero, suc, ◌≤◌, true, false, cond, List, [], ◌∷◌, ◌++◌, length}
use Rattle.std.proofs.Common.{Option, None, Some, refl, sym, ap, ◌∙◌, subst, arith, ⊎_elim, length-append}
use Rattle.std.specs.Ordering.{eq_by_cmp}
use Rattle.cs_tree_model.specs.Laws.Paths.{path_cases, snoc_front, snoc_last, snoc_not_nil}
use Rattle.cs_tree_model.specs.Tree.{Path, path_cmp}
use Rattle.cs_entries.specs.Entries.{Entries, Entry, entry_eq, put}
use Rattle.cs_entries.specs.Legal.{IsTree, IsBare}
use Rattle.cs_entries.specs.Paths.{entry_in, in_node, at_path}
use Rattle.cs_entries.specs.Laws.One.{entry_cases, put_here, put_other, same_number}
use Rattle.cs_entries.specs.Laws.Paths.{IsMore, last_cases, down_more, at_more, one_path}
use Rattle.cs_entries.specs.declared.node.Node.{Node}
use Rattle.cs_entries.specs.declared.node.Node.TheVariants.{Directory, File}

module _ (m : Entries) (tree : IsTree m) (front : Path) (name : List ℕ) (c : ℕ)
    (above : at_path m front ≡ Some (Directory c)) (held : Option Node)
    (bare : IsBare m (m (entry_in c name)))
    -- a directory that is put has no entry, and isn't the one that it is put into
    (new : (d : ℕ) → held ≡ Some (Directory d) → (d ≢ c) × ((e : Entry) → e.directory ≡ d → m e ≡ None)) where
  abbrev e : Entry
  e = entry_in c name

  abbrev p : Path
  p = front ++ name ∷ []

  abbrev n : Entries
  n = put m e held

  at_p : at_path m p ≡ m e
  at_p = at_more m front name c above

  abbrev now : Path → Option Node
  now q = cond (eq_by_cmp path_cmp q p) held (at_path m q)

  -- nothing is in what is put
  none_below : (h : Option Node) → held ≡ h → (y : List ℕ) → in_node n h y ≡ None
  none_below None is y = refl
  none_below (Some (File kind file)) is y = refl
  none_below (Some (Directory d)) is y =
      put_other m e (entry_in d y) held (λ s. (new d is).0 (sym (ap (λ f. f.directory) s)))
      ∙ (new d is).1 (entry_in d y) refl

  -- nor in what was there
  none_before : (h : Option Node) → m e ≡ h → (y : List ℕ) → in_node m h y ≡ None
  none_before None is y = refl
  none_before (Some (File kind file)) is y = refl
  none_before (Some (Directory d)) is y = bare d is (entry_in d y) refl

  not_itself : (q : Path) (y : List ℕ) → p ≡ q → eq_by_cmp path_cmp (q ++ y ∷ []) p ≡ false
  not_itself q y same = ⊎_elim
      (λ (one : (eq_by_cmp path_cmp (q ++ y ∷ []) p ≡ true) × (q ++ y ∷ [] ≡ p)). absurd
      (omega (arith, ap length (one.1 ∙ same), length-append q (y ∷ []))))
      (λ (two : (eq_by_cmp path_cmp (q ++ y ∷ []) p ≡ false) × (q ++ y ∷ [] ≢ p)). two.0)
      (path_cases (q ++ y ∷ []) p)

  step : (q : Path) (y : List ℕ) → at_path n q ≡ now q → at_path n (q ++ y ∷ []) ≡ now (q ++ y ∷ [])
  step q y before = down_more n (Some (Directory 0)) q y ∙ ap (λ o. in_node n o y) before ∙ ⊎_elim
      (λ (one : (eq_by_cmp path_cmp q p ≡ true) × (q ≡ p)).
      ap (λ b. in_node n (cond b held (at_path m q)) y) one.0 ∙ none_below held refl y
      ∙ sym (ap (λ b. cond b held (at_path m (q ++ y ∷ []))) (not_itself q y (sym one.1))
      ∙ down_more m (Some (Directory 0)) q y
      ∙ ap (λ o. in_node m o y) (ap (at_path m) one.1 ∙ at_p)
      ∙ none_before (m e) refl y))
      (λ (two : (eq_by_cmp path_cmp q p ≡ false) × (q ≢ p)).
      ap (λ b. in_node n (cond b held (at_path m q)) y) two.0
      ∙ by (at_path m q) refl)
      (path_cases q p)
    where
      -- the path that is put is that of a name in c
      is_p : q ++ y ∷ [] ≡ p → (at_path m q ≡ Some (Directory c)) × (y ≡ name)
      is_p s = (ap (at_path m) (snoc_front q front y name s) ∙ above, snoc_last q front y name s)

      other : q ++ y ∷ [] ≢ p → eq_by_cmp path_cmp (q ++ y ∷ []) p ≡ false
      other w = ⊎_elim
          (λ (one : (eq_by_cmp path_cmp (q ++ y ∷ []) p ≡ true) × (q ++ y ∷ [] ≡ p)). absurd (w one.1))
          (λ (two : (eq_by_cmp path_cmp (q ++ y ∷ []) p ≡ false) × (q ++ y ∷ [] ≢ p)). two.0)
          (path_cases (q ++ y ∷ []) p)

      itself : q ++ y ∷ [] ≡ p → eq_by_cmp path_cmp (q ++ y ∷ []) p ≡ true
      itself w = ⊎_elim
          (λ (one : (eq_by_cmp path_cmp (q ++ y ∷ []) p ≡ true) × (q ++ y ∷ [] ≡ p)). one.0)
          (λ (two : (eq_by_cmp path_cmp (q ++ y ∷ []) p ≡ false) × (q ++ y ∷ [] ≢ p)). absurd (two.1 w))
          (path_cases (q ++ y ∷ []) p)

      stays : (o : Option Node) → at_path m q ≡ o → q ++ y ∷ [] ≢ p → in_node n o y ≡ in_node m o y
          → in_node n o y ≡ now (q ++ y ∷ [])
      stays o is w same =
          same ∙ sym (ap (λ b. cond b held (at_path m (q ++ y ∷ []))) (other w)
          ∙ down_more m (Some (Directory 0)) q y ∙ ap (λ x. in_node m x y) is)

      by : (o : Option Node) → at_path m q ≡ o → in_node n o y ≡ now (q ++ y ∷ [])
      by None is = stays None is (λ s. (let w = (is_p s).0 in absurd (cc))) refl
      by (Some (File kind file)) is = stays (Some (File kind file)) is (λ s. (let w = (is_p s).0 in absurd (cc))) refl
      by (Some (Directory d)) is = ⊎_elim
          (λ (one : (entry_eq e (entry_in d y) ≡ true) × (e ≡ entry_in d y)).
          (let here : at_path m q ≡ Some (Directory c) = is ∙ ap (λ f. Some (Directory f.directory)) (sym one.1) in
          let fronts = one_path m tree (length q) q front c (omega arith) here above in
          let s : q ++ y ∷ [] ≡ p = λ i. fronts i ++ (sym one.1 i).name ∷ [] in
          ap n (sym one.1) ∙ put_here m e held
          ∙ sym (ap (λ b. cond b held (at_path m (q ++ y ∷ []))) (itself s))))
          (λ (two : (entry_eq e (entry_in d y) ≡ false) × (e ≢ entry_in d y)).
          stays (Some (Directory d)) is
          (λ s. (let w = is_p s in
          two.1 (λ i. record {
            directory = same_number c d (sym w.0 ∙ is) i;
            name = sym w.1 i;
          })))
          (put_other m e (entry_in d y) held two.1))
          (entry_cases e (entry_in d y))

  at_root : at_path n [] ≡ now []
  at_root = ⊎_elim
      (λ (one : (eq_by_cmp path_cmp [] p ≡ true) × ([] ≡ p)). absurd (snoc_not_nil front name one.1))
      (λ (two : (eq_by_cmp path_cmp [] p ≡ false) × ([] ≢ p)).
      sym (ap (λ b. cond b held (at_path m [])) two.0))
      (path_cases [] p)

  -- what is at each path after
  pub path_put : (k : ℕ) (q : Path) → length q ≤ k → at_path n q ≡ now q
  path_put zero q long = ⊎_elim
      (λ (z : q ≡ []). subst (λ r. at_path n r ≡ now r) (sym z) at_root)
      (λ (w : IsMore q). absurd (omega (arith, long, ap length w.is, length-append w.front (w.last ∷ []))))
      (last_cases q)
  path_put (suc k) q long = ⊎_elim
      (λ (z : q ≡ []). subst (λ r. at_path n r ≡ now r) (sym z) at_root)
      (λ (w : IsMore q).
      subst (λ r. at_path n r ≡ now r) (sym w.is)
      (step w.front w.last (path_put k w.front
      (omega (arith, long, ap length w.is, length-append w.front (w.last ∷ []))))))
      (last_cases q)
