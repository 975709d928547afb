use Rattle.std.proofs.Common.{◌≡◌, ℕ, Option, None, Some, IsSome, true, false, refl, sym}
use Rattle.std.proofs.lemmas.Bool.{false≢true}
use Rattle.std.specs.Option.{is_some}
use Rattle.cs_tree_model.specs.Laws.Nexts.{HasName, entry_holds}
use Rattle.cs_tree_model.specs.Nexts.{IsEntryBelow, entry_below, next_name}
use Rattle.cs_tree_model.specs.Tree.{NameBytes, Tree, number_in}
use Rattle.cs_permit.proofs.laws.first_entry_decides.Goals as goal

none_if : (o : Option ℕ) → (IsSome o → ⊥) → o ≡ None
none_if None absent = refl
none_if (Some n) absent = absurd (absent refl)

none_there : (t : Tree) (d : ℕ) (o : Option NameBytes) → IsEntryBelow (HasName t d) None None (entry_below None o) → is_some o ≡ false
    → (x : NameBytes) → number_in t d x ≡ None
none_there t d None holds none x = none_if (number_in t d x) (λ there. false≢true (sym (holds x (there, refl))))
none_there t d (Some y) holds none x = absurd (false≢true (sym none))

some_there : (t : Tree) (d : ℕ) (o : Option NameBytes) → IsEntryBelow (HasName t d) None None (entry_below None o) → is_some o ≡ true
    → (x : NameBytes) × IsSome (number_in t d x)
some_there t d None holds some = absurd (false≢true some)
some_there t d (Some y) holds some = (y, holds.there.0)

pub returns-clause-empty : goal.returns-clause-empty
returns-clause-empty g c =
    let t = g.T.TreeRead.tree c.args.tree.now in
    none_there t c.args.number (next_name t c.args.number None) (entry_holds t c.args.number None None)

pub returns-clause-entry : goal.returns-clause-entry
returns-clause-entry g c =
    let t = g.T.TreeRead.tree c.args.tree.now in
    some_there t c.args.number (next_name t c.args.number None) (entry_holds t c.args.number None None)
