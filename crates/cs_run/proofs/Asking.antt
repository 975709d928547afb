-- Opens of which the rules say the same.
use Rattle.std.proofs.Common.{◌≡◌, false, List, ap, refl}
use Rattle.cs_permit.specs.Calls.{failing_rule, rules_view}
use Rattle.cs_permit.specs.Opens.{is_open, open_rules}
use Rattle.cs_permit.specs.Refusals.{first_failing}
use Rattle.cs_permit.specs.Rules.{is_exclusive, on_file}
use Rattle.cs_permit.specs.declared.call.Call.{Call}
use Rattle.cs_permit.specs.declared.call.Call.TheVariants.{Open}
use Rattle.cs_permit.specs.declared.call.OpenCall.{OpenCall}
use Rattle.cs_permit.specs.declared.call.OpenFile.{OpenFile}
use Rattle.cs_tree_model.specs.Tree.{Tree}
use Rattle.cs_users.specs.Rows.{Row}

module _ (t : Tree) (xs ys : List OpenFile) (us : List Row) where
  -- an open's rules ask only whether one is on the file
  pub same_of_file : (c : OpenCall) → is_open xs c.number ≡ is_open ys c.number → open_rules t xs us c ≡ open_rules t ys us c
  same_of_file c e = rw e refl

  -- and of a file that isn't exclusive nothing
  pub same_of_shared : (c : OpenCall) → on_file t c.number is_exclusive ≡ false → open_rules t xs us c ≡ open_rules t ys us c
  same_of_shared c e = rw e refl

  pub same_of_open : (call : Call) (c : OpenCall) → call ≡ Open c → open_rules t xs us c ≡ open_rules t ys us c
      → failing_rule (rules_view t xs us) call ≡ failing_rule (rules_view t ys us) call
  unfolding failing_rule
  same_of_open call c is e = rw is (ap first_failing e)

  -- the rules of other calls ask for none
  pub same_of_others : (call : Call) → ((c : OpenCall) → call ≡ Open c → ⊥)
      → failing_rule (rules_view t xs us) call ≡ failing_rule (rules_view t ys us) call
  unfolding failing_rule
  same_of_others (Open c) other = absurd (other c refl)
  same_of_others call other = refl
