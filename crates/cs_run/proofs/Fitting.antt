-- A read gives no more bytes than it asks for, and a walk no more qids than it has names.
use Rattle.std.proofs.Common.{◌≡◌, ◌≤◌, ℕ, suc, Bool, true, false, if◌then◌else◌, List, [], ◌∷◌, length, take, drop, Option, Some, None}
use Rattle.std.proofs.Common.{Result, Ok, Err, sym, subst, arith, unwrap_or}
use Rattle.std.proofs.lemmas.List.{length-take}
use Rattle.std.specs.Option.{option_map}
use Rattle.cs_names.specs.declared.rule_id.RuleId.{RuleId}
use Rattle.cs_permit.specs.Calls.{RulesView}
use Rattle.cs_permit.specs.Reads.{name_before}
use Rattle.cs_permit.specs.Rules.{is_directory, on_file}
use Rattle.cs_permit.specs.Walks.{element}
use Rattle.cs_permit.specs.declared.call.Call.{Call}
use Rattle.cs_permit.specs.declared.call.Call.TheVariants.{Read, Walk}
use Rattle.cs_permit.specs.declared.call.ReadCall.{ReadCall}
use Rattle.cs_run.proofs.Most.{fullest}
use Rattle.cs_run.specs.Effects.{CallResult}
use Rattle.cs_run.specs.Laws.{FitsCall}
use Rattle.cs_run.specs.Outcomes.{IsOutcomeOf, result_by_outcome, outcome}
use Rattle.cs_run.specs.Pages.{bytes_given, entries_given, data_read}
use Rattle.cs_run.specs.Walks.{WalkResult, go_on, walk_from}
use Rattle.cs_run.specs.declared.answer.Outcome.{Outcome}
use Rattle.cs_run.specs.declared.answer.Outcome.TheVariants as o
use Rattle.cs_run.specs.declared.turn.Turn.{Turn}
use Rattle.cs_tree_model.specs.Nexts.{names_after}
use Rattle.cs_tree_model.specs.Tree.{Tree, content_numbered}
use Rattle.cs_users.specs.Rows.{Row}

bytes_fit : (count offset : ℕ) (o : Option (List ℕ))
    → length (unwrap_or (option_map (λ bytes. take count (drop offset bytes)) o) []) ≤ count
bytes_fit count offset None = omega arith
bytes_fit count offset (Some bytes) = omega (arith, length-take count (drop offset bytes))

read_fits : (t : Tree) (c : ReadCall) → length (data_read t c).bytes ≤ c.count
read_fits t c = by (on_file t c.number is_directory)
  where
    by : (b : Bool) → length (if b then entries_given t c else bytes_given t c).bytes ≤ c.count
    by true = (fullest t c.number c.count (name_before c) (names_after t c.number (name_before c))).fits
    by false = bytes_fit c.count c.offset (content_numbered t c.number)

further_fits : (t : Tree) (n : ℕ) (rest : ℕ → WalkResult) (k : ℕ) → ((m : ℕ) → length (rest m).qids ≤ k) → (r : Result ℕ RuleId)
    → length (go_on rest t n r).qids ≤ suc k
further_fits t n rest k few (Err rule) = omega arith
further_fits t n rest k few (Ok m) = (let less = few m in omega arith)

walk_fits : (t : Tree) (us : List Row) (u : List ℕ) (n : ℕ) (names : List (List ℕ)) → length (walk_from t us u n names).qids ≤ length names
walk_fits t us u n [] = omega arith
walk_fits t us u n (x ∷ xs) = further_fits t n (λ m. walk_from t us u m xs) (length xs) (λ m. walk_fits t us u m xs) (element t us u n x)

pub fits : (s : RulesView) (w : Turn) (call : Call) (end : Outcome) → FitsCall call (result_by_outcome s w call end).answer
fits s w (Walk c) o.Granted = walk_fits s.tree s.users c.user c.number c.names
fits s w (Walk c) end = omega arith
fits s w (Read c) o.Granted = read_fits s.tree c
fits s w (Read c) end = omega arith
fits s w call end = tt

-- so the answer of a call fits it, however it ends
pub outcome_fits : (s : RulesView) (w : Turn) (call : Call) (how : Outcome) (leaves : CallResult) → IsOutcomeOf s w call how leaves
    → FitsCall call leaves.answer
outcome_fits s w call how leaves is =
    subst (λ (l : CallResult). FitsCall call l.answer) (sym is.leaves_is) (fits s w call (outcome s w call is.mark))
