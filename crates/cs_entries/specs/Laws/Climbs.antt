-- The paths of what a set leaves follow from the moves of directories only.
use Rattle.std.proofs.Common.{◌≡◌, ℕ, zero, suc, ◌≤◌, cond, [], ◌∷◌}
use Rattle.std.proofs.Common.{◌++◌, Some, sym, ap, ◌∙◌, arith}
use Rattle.std.proofs.lemmas.Bool.{eq-eqb, ne_eqb}
use Rattle.cs_tree_model.specs.Laws.Paths.{snoc_front, snoc_last}
use Rattle.cs_entries.specs.Entries.{Entries, Entry}
use Rattle.cs_entries.specs.Legal.{Way, Any, IsTree}
use Rattle.cs_entries.specs.Paths.{at_path}
use Rattle.cs_entries.specs.Positions.{climb, climb_entry}
use Rattle.cs_entries.specs.Laws.One.{same_number}
use Rattle.cs_entries.specs.Laws.Paths.{at_more}
use Rattle.cs_entries.specs.Laws.Depths.{AreBelow, short_way}
use Rattle.cs_entries.specs.declared.node.Node.{Node}
use Rattle.cs_entries.specs.declared.node.Node.TheVariants.{Directory}

module _ (m : Entries) (tree : IsTree m) (at : ℕ → Entry)
    (placed : (e : Entry) (d : ℕ) → m e ≡ Some (Directory d) → at d ≡ e) where
  climb_leads : (k n d : ℕ) → k ≤ n → Way m Any k d → at_path m (climb at n d) ≡ Some (Directory d)
  climb_leads zero zero d le w = ap (λ c. Some (Directory c)) (sym w)
  climb_leads zero (suc n) d le w =
      ap (λ b. at_path m (cond b [] (climb at n (at d).directory ++ (at d).name ∷ []))) (eq-eqb d 0 w)
      ∙ ap (λ c. Some (Directory c)) (sym w)
  climb_leads (suc k) zero d le w = absurd (omega (arith, le))
  climb_leads (suc k) (suc n) d le w =
      (let here = placed w.0 d w.1 in
      let up = climb_leads k n w.0.directory (omega (arith, le)) w.3 in
      ap (λ b. at_path m (cond b [] (climb at n (at d).directory ++ (at d).name ∷ [])))
      (ne_eqb d 0 (λ z. tree.root w.0 (w.1 ∙ ap (λ c. Some (Directory c)) z)))
      ∙ ap (λ e. at_path m (climb at n e.directory ++ e.name ∷ [])) here
      ∙ at_more m (climb at n w.0.directory) w.0.name w.0.directory up ∙ w.1)

  module _ (n : ℕ) (few : AreBelow n m) where
    directory_climbed : (e : Entry) (node : Node) → m e ≡ Some node
        → at_path m (climb at n e.directory) ≡ Some (Directory e.directory)
    directory_climbed e node is =
        (let w = tree.reached e node is in
        climb_leads w.0 n e.directory (short_way m tree n few w.0 e.directory w.1) w.1)

    -- an entry's path leads to what it holds
    pub entry_climbed : (e : Entry) (node : Node) → m e ≡ Some node
        → at_path m (climb_entry at n e) ≡ Some node
    entry_climbed e node is =
        at_more m (climb at n e.directory) e.name e.directory (directory_climbed e node is) ∙ is

    -- two entries that are left have different paths
    pub climbs_apart : (e f : Entry) (v w : Node) → m e ≡ Some v → m f ≡ Some w
        → climb_entry at n e ≡ climb_entry at n f → e ≡ f
    climbs_apart e f v w he hf same =
        (let fronts = snoc_front (climb at n e.directory) (climb at n f.directory) e.name f.name same in
        let d = same_number e.directory f.directory
        (sym (directory_climbed e v he) ∙ ap (at_path m) fronts ∙ directory_climbed f w hf) in
        let name = snoc_last (climb at n e.directory) (climb at n f.directory) e.name f.name same in
        λ i. record { directory = d i; name = name i })
