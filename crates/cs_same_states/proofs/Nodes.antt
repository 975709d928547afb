-- Two trees that have the same under each number are equal.
use Rattle.std.proofs.Common.{◌≡◌, ℕ, ◌<◌, Option, None, Some, refl, sym, ap, ◌∙◌, ⊎_elim, ◌≤◌, unwrap_or, [], arith, ◌+◌, ◌↔◌, Bool}
use Rattle.std.proofs.Common.{IsTrue, subst}
use Rattle.std.proofs.lemmas.Bool.{cases_lt}
use Rattle.std.specs.Option.{option_map, option_and_then}
use Rattle.cs_tree_model.specs.declared.record.Record.{Record}
use Rattle.cs_tree_model.specs.Table.{Node, node_at, node_in, tree_of}
use Rattle.cs_tree_model.specs.Tree.{NameBytes, Path, Tree, IsTree, last_name, name_numbered, parent_numbered, record_numbered}
use Rattle.cs_tree_model.specs.Laws.Changes.{next_of_tree}
use Rattle.cs_tree_model.specs.Laws.Numbered.{next_free}
use Rattle.cs_tree_model.specs.Laws.Round.{tree_of_table}
use Rattle.cs_same_states.specs.Trees.{AreSameAt}

-- the node of what is asked for by its number
abbrev node_by : Option Record → Option ℕ → Option NameBytes → Option Node
node_by None u y = None
node_by (Some r) None y = None
node_by (Some r) (Some u) y = Some (record { parent = u; name = unwrap_or y []; file = r })

found : (o : Option (Path × Record)) (u : Option ℕ)
    → node_at (option_map (λ e. e.0) o) u (option_map (λ e. e.1) o)
    ≡ node_by (option_map (λ e. e.1) o) u (option_and_then last_name (option_map (λ e. e.0) o))
found None u = refl
found (Some e) None = refl
found (Some e) (Some u) = refl

asked : (t : Tree) (n : ℕ) → node_in t n ≡ node_by (record_numbered t n) (parent_numbered t n) (name_numbered t n)
asked t n = found _ (parent_numbered t n)

same_node : (t u : Tree) (n : ℕ) → AreSameAt t u n → node_in t n ≡ node_in u n
same_node t u n s = asked t n ∙ (λ i. node_by (s.records i) (s.parents i) (s.names i)) ∙ sym (asked u n)

-- no node has the next number or one above it
free : (t : Tree) → IsTree t → (n : ℕ) → t.next ≤ n → node_in t n ≡ None
free t h n above = asked t n ∙ ap (λ r. node_by r (parent_numbered t n) (name_numbered t n)) (next_free t h n above)

of_nodes : (t : Tree) → IsTree t → tree_of (node_in t) t.next ≡ t
of_nodes t h = λ i. record { files = tree_of_table t h i; next = next_of_tree (node_in t) t.next i }

pub same_trees : (t u : Tree) → IsTree t → IsTree u → t.next ≡ u.next → ((n : ℕ) → n < t.next → AreSameAt t u n) → t ≡ u
same_trees t u h k e same = sym (of_nodes t h) ∙ (λ i. tree_of (λ n. each n i) (e i)) ∙ of_nodes u k
  where
    each : (n : ℕ) → node_in t n ≡ node_in u n
    each n = ⊎_elim
        (λ (low : n < t.next). same_node t u n (same n low))
        (λ (high : t.next ≤ n). free t h n high ∙ sym (free u k n (omega (arith, e))))
        (cases_lt n t.next)

pub same_at : (t u : Tree) → t ≡ u → (n : ℕ) → AreSameAt t u n
same_at t u e n = record {
  records = ap (λ v. record_numbered v n) e;
  parents = ap (λ v. parent_numbered v n) e;
  names = ap (λ v. name_numbered v n) e;
}

-- and so they are if they have the same under each number up to the last
pub whole : (t u : Tree) → IsTree t → IsTree u → (last : ℕ) → t.next ≡ last + 1 → u.next ≡ last + 1 → ((n : ℕ) → n < last → AreSameAt t u n)
    → (b : Bool) → (IsTrue b ↔ AreSameAt t u last) → (IsTrue b ↔ (t ≡ u))
whole t u h k last e f below b at = (λ yes. same_trees t u h k (e ∙ sym f) (all (at.0 yes)), λ same. at.1 (same_at t u same last))
  where
    all : AreSameAt t u last → (n : ℕ) → n < t.next → AreSameAt t u n
    all here n low = ⊎_elim
        (λ (lower : n < last). below n lower)
        (λ (not : last ≤ n). let one : last ≡ n = omega (arith, e) in subst (AreSameAt t u) one here)
        (cases_lt n last)
