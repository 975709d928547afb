-- A run without a journal, which counts its calls.
use Rattle.std.specs.Prelude.{ℕ, ◌||◌, Bool, List, nat_le}
use Rattle.cs_permit.specs.Calls.{RulesView, rules_view}
use Rattle.cs_permit.specs.declared.call.OpenFile.{OpenFile}
use Rattle.cs_tree_model.specs.Tree.{Tree}
use Rattle.cs_tree_model.specs.declared.read.TreeRead.{Ghosts}
use Rattle.cs_users.specs.Rows.{Row}
use Rattle.cs_run.specs.declared.counted.CountedRun.{CountedRun}
use Rattle.cs_run.specs.declared.turn.Turn.{Turn}

-- its tree, its opens, the users, and how many calls it counts
pub record Counted : Type 0 where
  pub tree : Tree
  pub opens : List OpenFile
  pub users : List Row
  pub count : ℕ

-- what contracts see of a run whose store is seen as a tree
abbrev pub run_of : {T : Type 0} {store : Ghosts T} → CountedRun T store → Counted
run_of {T} {store} run = record {
  tree = store.tree run.tree;
  opens = run.opens.items;
  users = run.users;
  count = run.count;
}

-- what the rules look at
abbrev pub state_of : Counted → RulesView
state_of run = rules_view run.tree run.opens run.users

-- the turn of its next call
abbrev pub turn_of : Counted → ℕ → ℕ → Turn
turn_of run moment pass = record { moment = moment; place = run.count; pass = pass }

-- one call more could raise a version, or the next number, above the greatest there is
abbrev pub is_full : Counted → Bool
is_full run = nat_le 0xFFFFFFFF run.count || nat_le 0x10000000000000000 run.tree.next
