-- A move of a directory to a path that isn't below it is a move to a directory that is reached
-- without it: how the reader of a trace, who knows paths, gives what the laws ask for.
use Rattle.std.proofs.Common.{◌≡◌, ◌≢◌, ℕ, zero, suc, List, [], ◌∷◌, ◌++◌, length}
use Rattle.std.proofs.Common.{Some, refl, sym, ap, ◌∙◌, arith, ⊎_elim, length-append}
use Rattle.std.proofs.lemmas.List.{append-nil, append_assoc}
use Rattle.cs_tree_model.specs.Tree.{Path}
use Rattle.cs_entries.specs.Entries.{Entries, Entry}
use Rattle.cs_entries.specs.Legal.{Way, IsReached, IsTree}
use Rattle.cs_entries.specs.Paths.{entry_in, at_path}
use Rattle.cs_entries.specs.Laws.One.{same_number}
use Rattle.cs_entries.specs.Laws.Paths.{IsMore, last_cases, in_directory, one_path}
use Rattle.cs_entries.specs.declared.node.Node.TheVariants.{Directory}

-- the path isn't the other, nor below it
abbrev pub IsNotBelow : Path → Path → Type 0
IsNotBelow q p = (r : Path) → q ≢ p ++ r

module _ (m : Entries) (tree : IsTree m) (front : Path) (name : List ℕ) (c : ℕ)
    (above : at_path m front ≡ Some (Directory c)) where
  abbrev a : Entry
  a = entry_in c name

  abbrev p : Path
  p = front ++ name ∷ []

  way_apart : (n : ℕ) (q : Path) (d : ℕ) → length q ≡ n → at_path m q ≡ Some (Directory d)
      → IsNotBelow q p → Way m (λ f. f ≢ a) n d
  way_apart zero q d long h apart = ⊎_elim
      (λ (e : q ≡ []). same_number d 0 (sym h ∙ ap (at_path m) e))
      (λ (w : IsMore q). absurd (omega (arith, long, ap length w.is, length-append w.front (w.last ∷ []))))
      (last_cases q)
  way_apart (suc n) q d long h apart = ⊎_elim
      (λ (e : q ≡ []). absurd (omega (arith, long, ap length e)))
      (λ (w : IsMore q).
      (let i = in_directory m w.front w.last (Directory d) (ap (at_path m) (sym w.is) ∙ h) in (
        entry_in i.directory w.last,
        i.held,
        (λ same.
            (let up : at_path m w.front ≡ Some (Directory c) = i.above ∙ ap (λ f. Some (Directory f.directory)) same in
            let fronts = one_path m tree (length w.front) w.front front c (omega arith) up above in
            apart [] (w.is ∙ (λ t. fronts t ++ (same t).name ∷ []) ∙ sym (append-nil p)))),
        way_apart n w.front i.directory
            (omega (arith, long, ap length w.is, length-append w.front (w.last ∷ []))) i.above
            (λ r e. apart (r ++ w.last ∷ [])
            (w.is ∙ ap (λ x. x ++ w.last ∷ []) e ∙ append_assoc p r (w.last ∷ []))),
      )))
      (last_cases q)

  pub reached_apart : (q : Path) (d : ℕ) → at_path m q ≡ Some (Directory d) → IsNotBelow q p
      → IsReached m (λ f. f ≢ entry_in c name) d
  reached_apart q d h apart = (length q, way_apart (length q) q d refl h apart)
