-- A find is the definition's, with some growth refused.
use Rattle.std.proofs.Common.{◌≡◌, ◌∙◌, ℕ, List, Option, None, Some, IfSome, sym, ap}
use Rattle.std.specs.Prelude.{Result}
use Rattle.std.specs.Option.{option_map}
use Rattle.cs_journal.specs.Marks.{Ample}
use Rattle.cs_permit.specs.declared.fault.FindFault.{FindFault}
use Rattle.cs_registry.specs.Finds.{Finds, IsNew, found}
use Rattle.cs_registry.specs.Keys.{Key}
use Rattle.cs_registry.specs.Registries.{Registry}
use Rattle.cs_tree_model.specs.Tree.{Tree}
use Rattle.cs_users.specs.Rows.{Row}
use Rattle.cs_world.specs.Asking.{given_run}
use Rattle.cs_world.specs.Marks.{RunMark, InRun, NoRun}
use Rattle.cs_journal.specs.Runs.{RunOf, fresh_run}

-- a run that is kept from its start
abbrev pub is_fresh : Key → Tree → List Row → RunOf → Type 0
is_fresh key tree users run = run ≡ fresh_run tree users

module _ (old : Registry RunOf) (key : Key) (answer : Result ℕ FindFault) (new : Registry RunOf) where
  abbrev pub IsFound : Type 0
  IsFound = (mark : RunMark) × ((answer, new) ≡ found old key (given_run old key.number mark))

  by_given : (g : Option RunOf) → IfSome g (IsNew is_fresh old key) → (answer, new) ≡ found old key g → IsFound
  by_given None fresh e = (NoRun, e)
  by_given (Some run) fresh e =
      let given : given_run old key.number (InRun Ample) ≡ Some run =
      ap (option_map (λ (tree : Tree). fresh_run tree old.users)) fresh.1 ∙ ap Some (sym fresh.2) in
      (InRun Ample, e ∙ ap (found old key) (sym given))

  pub finds : Finds is_fresh old key answer new → IsFound
  finds f = by_given f.given f.fresh f.answers
