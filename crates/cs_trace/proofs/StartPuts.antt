-- One entry more at the start: what names lead to, and what paths have.
use Rattle.std.proofs.Common.{◌≡◌, ◌≢◌, ◌≤◌, ℕ, zero, suc, List, [], ◌∷◌, ◌++◌, cond, Option, None, Some, length}
use Rattle.std.proofs.Common.{refl, sym, ap, ◌∙◌, arith, subst, ⊎_elim, length-append}
use Rattle.std.specs.FinMap.{get, get-insert, insert}
use Rattle.std.specs.Ordering.{eq_by_cmp}
use Rattle.cs_entries.specs.declared.entry.Entry.{Entry}
use Rattle.cs_entries.specs.Entries.{Entries, Create, put}
use Rattle.cs_entries.specs.Laws.One.{same_number}
use Rattle.cs_entries.specs.Laws.Paths.{IsMore, at_more, in_directory, last_cases}
use Rattle.cs_entries.specs.Laws.Puts.{path_put}
use Rattle.cs_entries.specs.Laws.Records.{table_step}
use Rattle.cs_entries.specs.Laws.Trees.{tree_after}
use Rattle.cs_entries.specs.Legal.{Any, IsBare, IsLegal, IsNew, IsReached, IsTree, Way}
use Rattle.cs_entries.specs.Paths.{at_path, entry_in}
use Rattle.cs_entries.specs.Tables.{Table, held_in}
use Rattle.cs_entries.specs.declared.node.Node.{Node}
use Rattle.cs_entries.specs.declared.node.Node.TheVariants.{Directory, File}
use Rattle.cs_tree_model.specs.Laws.Paths.{path_total}
use Rattle.cs_tree_model.specs.Tree.{Path, path_cmp}
use Rattle.cs_trace.specs.Traces.{Paths}

way_to : (m : Entries) (n : ℕ) (q : Path) (d : ℕ) → length q ≡ n → at_path m q ≡ Some (Directory d) → Way m Any n d
way_to m zero q d long h = ⊎_elim
    (λ (e : q ≡ []). same_number d 0 (sym h ∙ ap (at_path m) e))
    (λ (w : IsMore q). absurd (omega (arith, long, ap length w.is, length-append w.front (w.last ∷ []))))
    (last_cases q)
way_to m (suc n) q d long h = ⊎_elim
    (λ (e : q ≡ []). absurd (omega (arith, long, ap length e)))
    (λ (w : IsMore q).
    (let i = in_directory m w.front w.last (Directory d) (ap (at_path m) (sym w.is) ∙ h) in (
      entry_in i.directory w.last,
      i.held,
      tt,
      way_to m n w.front i.directory (omega (arith, long, ap length w.is, length-append w.front (w.last ∷ []))) i.above,
    )))
    (last_cases q)

-- a directory that a path leads to is reached
pub path_reached : (m : Entries) (q : Path) (d : ℕ) → at_path m q ≡ Some (Directory d) → IsReached m Any d
path_reached m q d h = (length q, way_to m (length q) q d refl h)

-- a new one isn't
unreached : (m : Entries) (d n : ℕ) → IsNew m (Directory d) → Way m Any n d → ⊥
unreached m d zero new w = new.0 w
unreached m d (suc n) new w = new.1 w.0 w.1

no_node : (node : Node) → None ≡ Some node → ⊥
no_node node h = cc

some_node : (a b : Node) → Some a ≡ Some b → a ≡ b
some_node a b h = cc

module _ (t : Table) (tree : IsTree (held_in t)) (front : Path) (name : List ℕ) (c : ℕ)
    (above : at_path (held_in t) front ≡ Some (Directory c)) (free : at_path (held_in t) (front ++ name ∷ []) ≡ None)
    (node : Node) (new : IsNew (held_in t) node) where
  abbrev e : Entry
  e = entry_in c name

  abbrev p : Path
  p = front ++ name ∷ []

  pub free_entry : get t e ≡ None
  free_entry = sym (at_more (held_in t) front name c above) ∙ free

  bare : IsBare (held_in t) (held_in t e)
  bare d is = absurd (no_node (Directory d) (sym free_entry ∙ is))

  pub legal : IsLegal (held_in t) (Create e node)
  legal = (free_entry, path_reached (held_in t) front c above, new)

  same_held : held_in (insert t e node) ≡ put (held_in t) e (Some node)
  same_held = λ i q. table_step t (Create e node) legal q i

  pub tree_now : IsTree (held_in (insert t e node))
  tree_now = subst IsTree (sym same_held) (tree_after (held_in t) (Create e node) tree legal)

  apart : (d : ℕ) → Some node ≡ Some (Directory d) → (d ≢ c) × ((f : Entry) → f.directory ≡ d → held_in t f ≡ None)
  apart d is = (
    λ same. (let w = path_reached (held_in t) front c above in
        unreached (held_in t) d w.0 fresh (subst (Way (held_in t) Any w.0) (sym same) w.1)),
    λ f inside. by f inside (held_in t f) refl,
  )
    where
      fresh : IsNew (held_in t) (Directory d)
      fresh = subst (IsNew (held_in t)) (some_node node (Directory d) is) new

      by : (f : Entry) → f.directory ≡ d → (o : Option Node) → held_in t f ≡ o → held_in t f ≡ None
      by f inside None h = h
      by f inside (Some v) h =
          (let w = tree.reached f v h in
          absurd (unreached (held_in t) d w.0 fresh (subst (Way (held_in t) Any w.0) inside w.1)))

  pub agree_now : (m : Paths) → ((q : Path) → at_path (held_in t) q ≡ get m q) → (q : Path)
      → at_path (held_in (insert t e node)) q ≡ get (insert m p node) q
  agree_now m agree q =
      (let long : length q ≤ length q = omega arith in
      ap (λ h. at_path h q) same_held
      ∙ path_put (held_in t) tree front name c above (Some node) bare apart (length q) q long
      ∙ ap (cond (eq_by_cmp path_cmp q p) (Some node)) (agree q)
      ∙ sym (get-insert path_total m p node q))
