-- A tree is no deeper than it has directories.
use Rattle.std.proofs.Common.{◌≡◌, ℕ, zero, suc, ◌+◌, ◌<◌, ◌≤◌, ◌==◌, true, false, List, [], ◌∷◌}
use Rattle.std.proofs.Common.{length, Some, refl, sym, ap, ◌∙◌, subst, arith, ⊎_elim}
use Rattle.std.proofs.Common.{length-append}
use Rattle.std.proofs.lemmas.Bool.{false≢true, ne_eqb, or_cases, eqb-true}
use Rattle.std.proofs.lemmas.Map.Steps.{length-le_from_distinct_below}
use Rattle.std.specs.List.{IsDistinct, AllByRecursion, list_any}
use Rattle.cs_entries.specs.Entries.{Entries, Entry}
use Rattle.cs_entries.specs.Legal.{Way, Any, IsTree}
use Rattle.cs_entries.specs.Paths.{entry_in, at_path}
use Rattle.cs_entries.specs.Laws.One.{same_number}
use Rattle.cs_entries.specs.Laws.Paths.{IsMore, last_cases, in_directory}
use Rattle.cs_entries.specs.declared.node.Node.{Node}
use Rattle.cs_entries.specs.declared.node.Node.TheVariants.{Directory}

-- each number that is held is below this
abbrev pub AreBelow : ℕ → Entries → Type 0
AreBelow n m = (e : Entry) (d : ℕ) → m e ≡ Some (Directory d) → d < n

module _ (m : Entries) (tree : IsTree m) where
  -- all ways to a directory are as long
  pub one_depth : (i j d : ℕ) → Way m Any i d → Way m Any j d → i ≡ j
  one_depth zero zero d w v = refl
  one_depth zero (suc j) d w v = absurd (tree.root v.0 (v.1 ∙ ap (λ c. Some (Directory c)) w))
  one_depth (suc i) zero d w v = absurd (tree.root w.0 (w.1 ∙ ap (λ c. Some (Directory c)) v))
  one_depth (suc i) (suc j) d w v =
      (let e = tree.one v.0 w.0 d v.1 w.1 in
      ap suc (one_depth i j w.0.directory w.3 (subst (λ f. Way m Any j f.directory) e v.3)))

  -- the directories on a way, but the root
  on_way : (k d : ℕ) → Way m Any k d → List ℕ
  on_way zero d w = []
  on_way (suc k) d w = d ∷ on_way k w.0.directory w.3

  long_way : (k d : ℕ) (w : Way m Any k d) → length (on_way k d w) ≡ k
  unfolding on_way
  long_way zero d w = refl
  long_way (suc k) d w = ap suc (long_way k w.0.directory w.3)

  -- no directory is above itself
  apart_above : (k d c : ℕ) (w : Way m Any k d) (j : ℕ) → k < j → Way m Any j c
      → AllByRecursion (λ y. c == y ≡ false) (on_way k d w)
  unfolding on_way
  apart_above zero d c w j lt v = tt
  apart_above (suc k) d c w j lt v = (
    ne_eqb c d (λ e. (let s = one_depth (suc k) j c (subst (Way m Any (suc k)) (sym e) w) v in omega (arith, s, lt))),
    apart_above k w.0.directory c w.3 j (omega (arith, lt)) v,
  )

  distinct_way : (k d : ℕ) (w : Way m Any k d) → IsDistinct (λ x y. x == y) (on_way k d w)
  unfolding on_way IsDistinct
  distinct_way zero d w = tt
  distinct_way (suc k) d w =
      (apart_above k w.0.directory d w.3 (suc k) (omega arith) w, distinct_way k w.0.directory w.3)

  module _ (n : ℕ) (below : AreBelow n m) where
    below_way : (k d : ℕ) (w : Way m Any k d) (q : ℕ) → list_any (λ y. q == y) (on_way k d w) ≡ true
        → q < n
    unfolding on_way
    below_way zero d w q h = absurd (false≢true h)
    below_way (suc k) d w q h = ⊎_elim
        (λ (here : (q == d) ≡ true). (let e = eqb-true q d here in let l = below w.0 d w.1 in omega (arith, e, l)))
        (λ (later : list_any (λ y. q == y) (on_way k w.0.directory w.3) ≡ true).
        below_way k w.0.directory w.3 q later)
        (or_cases (q == d) (list_any (λ y. q == y) (on_way k w.0.directory w.3)) h)

    pub short_way : (k d : ℕ) → Way m Any k d → k ≤ n
    short_way k d w =
        (let l = length-le_from_distinct_below (on_way k d w) n (distinct_way k d w) (below_way k d w) in
        omega (arith, l, long_way k d w))

-- the names of a path to a directory are a way
pub way_of_path : (m : Entries) (n : ℕ) (path : List (List ℕ)) (d : ℕ) → length path ≡ n
    → at_path m path ≡ Some (Directory d) → Way m Any n d
way_of_path m zero path d long h = ⊎_elim
    (λ (e : path ≡ []). same_number d 0 (sym h ∙ ap (at_path m) e))
    (λ (w : IsMore path). absurd (omega (arith, long, ap length w.is, length-append w.front (w.last ∷ []))))
    (last_cases path)
way_of_path m (suc n) path d long h = ⊎_elim
    (λ (e : path ≡ []). absurd (omega (arith, long, ap length e)))
    (λ (w : IsMore path).
    (let i = in_directory m w.front w.last (Directory d) (ap (at_path m) (sym w.is) ∙ h) in (
      entry_in i.directory w.last,
      i.held,
      tt,
      way_of_path m n w.front i.directory
          (omega (arith, long, ap length w.is, length-append w.front (w.last ∷ []))) i.above,
    )))
    (last_cases path)

-- what is at a path is at most one name below all directories
pub short_path : (m : Entries) (tree : IsTree m) (n : ℕ) → AreBelow n m → (path : List (List ℕ)) (node : Node)
    → at_path m path ≡ Some node → length path ≤ n + 1
short_path m tree n below path node h = ⊎_elim
    (λ (e : path ≡ []). omega (arith, ap length e))
    (λ (w : IsMore path).
    (let i = in_directory m w.front w.last node (ap (at_path m) (sym w.is) ∙ h) in
    let l = short_way m tree n below (length w.front) i.directory
    (way_of_path m (length w.front) w.front i.directory refl i.above) in
    omega (arith, l, ap length w.is, length-append w.front (w.last ∷ []))))
    (last_cases path)
