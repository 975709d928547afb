-- The next entry of a directory, by the table.
use Rattle.std.proofs.Common.{◌≡◌, ℕ, Option, None, Some, IsSome, sym, ap, ◌∙◌}
use Rattle.std.proofs.lemmas.Bool.{false≢true}
use Rattle.std.specs.Option.{option_and_then, is_some}
use Rattle.cs_tree_model.specs.Laws.Nexts.{entry_is, entry_same}
use Rattle.cs_tree_model.specs.Nexts.{IsEntryBelow, entry_below, next_name}
use Rattle.cs_tree_model.specs.Table.{tree_of}
use Rattle.cs_tree_model.specs.Tree.{NameBytes, Tree, number_in}
use Rattle.cs_tree.specs.declared.node.Node.{Node}
use Rattle.cs_tree.specs.Held.{IsHeld, model_nodes}
use Rattle.cs_tree.specs.Node.{child_in}
use Rattle.cs_tree.proofs.Lookups.{child_named, kid_is}

module _ (at : ℕ → Option Node) (next : ℕ) (h : IsHeld at next) (t : Tree) (view : tree_of (model_nodes at) next ≡ t) (u : ℕ)
    (last bound : Option NameBytes) where
  pub no_directory : None ≡ at u → None ≡ entry_below bound (next_name t u last)
  no_directory none = entry_is t u last bound None
      (entry_same {X = ℕ} (λ y. None) (number_in t u)
      (λ y. ap is_some (ap (option_and_then (λ o. child_in o.body y)) none ∙ kid_is at next h t view u y)) last bound None
      (λ y has. absurd (false≢true has.0)))

  module _ (d : Node) (here : Some d ≡ at u) where
    child_is : (y : NameBytes) → child_in d.body y ≡ number_in t u y
    child_is y = ap (option_and_then (λ o. child_in o.body y)) here ∙ kid_is at next h t view u y

    pub entry_of : (o : Option NameBytes) → IsEntryBelow (λ y. IsSome (child_in d.body y)) last bound o
        → o ≡ entry_below bound (next_name t u last)
    entry_of o e = entry_is t u last bound o (entry_same (child_in d.body) (number_in t u) (λ y. ap is_some (child_is y)) last bound o e)

    module _ (x : NameBytes) (k : ℕ) (has : child_in d.body x ≡ Some k) where
      child : (c : Node) × (at k ≡ Some c) × (c.name ≡ Some x)
      child = child_named at next h t view u x k (ap (option_and_then (λ o. child_in o.body x)) (sym here) ∙ has)

      pub there : None ≡ at k → ⊥
      there none = false≢true (ap is_some (none ∙ child.1))

      -- the child's own name
      pub own_name : (c : Node) → Some c ≡ at k → c.name ≡ Some x
      own_name c is = ap (option_and_then (λ (o : Node). o.name)) (is ∙ child.1) ∙ child.2

      pub named : (c : Node) → Some c ≡ at k → None ≡ c.name → ⊥
      named c is none = false≢true (ap is_some (none ∙ own_name c is))

      pub number_of : (y : NameBytes) → y ≡ x → number_in t u y ≡ Some k
      number_of y same = ap (number_in t u) same ∙ sym (child_is x) ∙ has
