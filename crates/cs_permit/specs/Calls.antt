-- The rules of every call on a run, in their order.
use Rattle.std.specs.Prelude.{List, [], Option}
use Rattle.cs_names.specs.declared.rule_id.RuleId.{RuleId}
use Rattle.cs_tree_model.specs.Tree.{Tree}
use Rattle.cs_users.specs.Rows.{Row}
use Rattle.cs_permit.specs.declared.call.Call.{Call}
use Rattle.cs_permit.specs.declared.call.Call.TheVariants.{Attach, Walk, Open, Create, Read, Write}
use Rattle.cs_permit.specs.declared.call.Call.TheVariants.{Close, Remove, Stat, Wstat}
use Rattle.cs_permit.specs.declared.call.OpenFile.{OpenFile}
use Rattle.cs_permit.specs.Attaches.{attach_rules}
use Rattle.cs_permit.specs.Creates.{create_rules}
use Rattle.cs_permit.specs.Opens.{open_rules}
use Rattle.cs_permit.specs.Reads.{read_rules}
use Rattle.cs_permit.specs.Refusals.{Check, first_failing}
use Rattle.cs_permit.specs.Removes.{remove_rules}
use Rattle.cs_permit.specs.Stats.{stat_rules}
use Rattle.cs_permit.specs.Walks.{walk_rules}
use Rattle.cs_permit.specs.Writes.{write_rules}
use Rattle.cs_permit.specs.Wstats.{wstat_rules}

-- what the rules of a run look at: its tree, its opens, and the users
pub record RulesView : Type 0 where
  pub tree : Tree
  pub opens : List OpenFile
  pub users : List Row

abbrev pub rules_view : Tree → List OpenFile → List Row → RulesView
rules_view t opens us = record { tree = t; opens = opens; users = us }

-- the rules of each call; a close has none
abbrev pub rules_of : RulesView → Call → List Check
rules_of s (Attach c) = attach_rules s.users c
rules_of s (Walk c) = walk_rules s.tree s.users c
rules_of s (Open c) = open_rules s.tree s.opens s.users c
rules_of s (Create c) = create_rules s.tree s.users c
rules_of s (Read c) = read_rules s.tree c
rules_of s (Write c) = write_rules s.tree c
rules_of s (Close c) = []
rules_of s (Remove c) = remove_rules s.tree s.users c
rules_of s (Stat c) = stat_rules s.tree c
rules_of s (Wstat c) = wstat_rules s.tree s.users c

-- the first rule of the call that fails
unfoldable pub failing_rule : RulesView → Call → Option RuleId
failing_rule s call = first_failing (rules_of s call)
