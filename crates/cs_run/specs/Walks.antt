-- A walk: the longest list of names that pass, and the rule that stops the next one (walk(5)).
use Rattle.std.specs.Prelude.{◌≡◌, ℕ, List, [], ◌∷◌, ◌++◌, Option, None, Some, Result, Ok, Err}
use Rattle.cs_names.specs.declared.rule_id.RuleId.{RuleId}
use Rattle.cs_permit.specs.Walks.{element}
use Rattle.cs_permit.specs.Shown.{qid_at}
use Rattle.cs_permit.specs.declared.call.WalkCall.{WalkCall}
use Rattle.cs_tree_model.specs.Tree.{Tree}
use Rattle.cs_users.specs.Rows.{Row}
use Rattle.cs_wire.specs.declared.message.Qid.{Qid}

-- the qids of the names that pass, the rule that stops the next, and the number of the last file
pub record WalkResult : Type 0 where
  pub qids : List Qid
  pub stopped : Option RuleId
  pub last : ℕ

-- a qid in front of those of the rest
abbrev pub with_qid_first : Qid → WalkResult → WalkResult
with_qid_first qid rest = record rest { qids = qid ∷ rest.qids }

-- the walk ends at the file if the next name is stopped; else it continues from the next file
abbrev pub go_on : (ℕ → WalkResult) → Tree → ℕ → Result ℕ RuleId → WalkResult
go_on rest tree number (Err rule) = record { qids = []; stopped = Some rule; last = number }
go_on rest tree number (Ok m) = with_qid_first (qid_at tree m) (rest m)

-- the walk of these names from the file
abbrev pub walk_from : Tree → List Row → List ℕ → ℕ → List (List ℕ) → WalkResult
walk_from tree users user number [] = record { qids = []; stopped = None; last = number }
walk_from tree users user number (x ∷ xs) =
    go_on (λ m. walk_from tree users user m xs) tree number (element tree users user number x)

-- the walk that a call asks for
abbrev pub requested_walk : Tree → List Row → WalkCall → WalkResult
requested_walk tree users call = walk_from tree users call.user call.number call.names

-- ---- what it means that a walk is the longest

-- each name leads on from the file of the name before it; these are the qids of the files, and the
-- last file has that number
abbrev pub LeadOn : Tree → List Row → List ℕ → ℕ → List (List ℕ) → List Qid → ℕ → Type 0
LeadOn tree users user number [] qids last = (qids ≡ []) × (last ≡ number)
LeadOn tree users user number (x ∷ xs) [] last = ⊥
LeadOn tree users user number (x ∷ xs) (qid ∷ qids) last =
    (m : ℕ) × (element tree users user number x ≡ Ok m) × (qid ≡ qid_at tree m)
    × LeadOn tree users user m xs qids last

-- no name is left, or that rule stops the next one
abbrev pub Stops : Tree → List Row → List ℕ → ℕ → List (List ℕ) → Option RuleId → Type 0
Stops tree users user number [] stopped = stopped ≡ None
Stops tree users user number (x ∷ xs) stopped =
    (rule : RuleId) × (stopped ≡ Some rule) × (element tree users user number x ≡ Err rule)

-- a front of the names leads on, and the rest begins with a name that is stopped, or is empty
pub record IsLongest (tree : Tree) (users : List Row) (user : List ℕ) (number : ℕ)
    (names : List (List ℕ))
    (walk : WalkResult) : Type 0 where
  pub front : List (List ℕ)
  pub rest : List (List ℕ)
  pub whole : names ≡ front ++ rest
  pub leads : LeadOn tree users user number front walk.qids walk.last
  pub stops : Stops tree users user walk.last rest walk.stopped

-- ---- parts of a walk

-- a walk with these qids in front of its own
abbrev pub with_qids_first : List Qid → WalkResult → WalkResult
with_qids_first [] rest = rest
with_qids_first (qid ∷ qids) rest = with_qid_first qid (with_qids_first qids rest)

-- what stopped a walk that has no qid
abbrev pub first_stop : List Qid → Option RuleId → Option RuleId
first_stop [] stopped = stopped
first_stop (qid ∷ qids) stopped = None

-- the rule that stopped the walk at its first name, if one did
abbrev pub stopped_first : WalkResult → Option RuleId
stopped_first walk = first_stop walk.qids walk.stopped
