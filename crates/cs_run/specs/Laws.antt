-- What calls do to the opens, the versions and the next number of a run.
use Rattle.std.specs.Prelude.{◌≡◌, ℕ, ◌+◌, ◌<◌, ◌≤◌, Bool, true, false, List, [], ◌∷◌, ◌++◌, Some}
use Rattle.std.specs.Prelude.{length}
use Rattle.cs_permit.specs.declared.call.Call.{Call}
use Rattle.cs_permit.specs.declared.call.Call.TheVariants.{Create, Open, Read, Walk}
use Rattle.cs_permit.specs.declared.call.OpenFile.{OpenFile}
use Rattle.cs_run.specs.declared.answer.Answer.{Answer}
use Rattle.cs_run.specs.declared.answer.Answer.TheVariants as a
use Rattle.cs_run.specs.declared.turn.Turn.{Turn}
use Rattle.cs_tree_model.specs.Tree.{Path, Tree, record_at}
use Rattle.cs_tree_model.specs.declared.record.Record.{Record}

-- a grant of the call makes an open
abbrev pub opens_one : Call → Bool
opens_one (Open call) = true
opens_one (Create call) = true
opens_one other = false

-- one open more, the last, with the number and the pass of the turn
pub record OpensOne (old new : List OpenFile) (turn : Turn) : Type 0 where
  pub one : OpenFile
  pub more : new ≡ old ++ one ∷ []
  pub number : one.number ≡ turn.place
  pub pass : one.pass ≡ turn.pass

-- each version is below k
abbrev pub AllVersBelow : ℕ → Tree → Type 0
AllVersBelow k tree = (p : Path) (r : Record) → record_at tree p ≡ Some r → r.vers < k

-- no version is greater, and each number above all versions is above this one
pub record IsGreatestVersion (tree : Tree) (number : ℕ) : Type 0 where
  pub bounds : AllVersBelow (number + 1) tree
  pub least : (k : ℕ) → 0 < k → AllVersBelow k tree → number < k

-- a call raises no version by more than one, and the next number by at most one
pub record RaisesByOne (old new : Tree) : Type 0 where
  pub versions : (k : ℕ) → AllVersBelow k old → AllVersBelow (k + 1) new
  pub next : new.next ≤ old.next + 1

-- how many bytes an answer gives
abbrev pub bytes_in : Answer → ℕ
bytes_in (a.Data given) = length given.bytes
bytes_in other = 0

-- how many qids a walk gives
abbrev pub qids_in : Answer → ℕ
qids_in (a.Walked way) = length way.qids
qids_in other = 0

-- the answer has no more bytes than a read asks for, and no more qids than a walk has names
abbrev pub FitsCall : Call → Answer → Type 0
FitsCall (Read call) answer = bytes_in answer ≤ call.count
FitsCall (Walk call) answer = qids_in answer ≤ length call.names
FitsCall other answer = Unit {0}
