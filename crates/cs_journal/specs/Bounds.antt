-- The versions of a run's files, and its next number.
use Rattle.std.specs.Prelude.{◌+◌, ◌-◌, ◌≤◌, ◌^◌}
use Rattle.cs_names.specs.declared.limits.TheConstants.{JOURNAL_ENTRIES}
use Rattle.cs_run.specs.Laws.{AllVersBelow}
use Rattle.cs_tree_model.specs.Tree.{Tree}

-- each version, and the next number, can grow by one with every entry of a journal
pub record CanGrow (t : Tree) : Type 0 where
  pub versions : AllVersBelow (2 ^ 32 - JOURNAL_ENTRIES) t
  pub next : t.next + JOURNAL_ENTRIES ≤ 2 ^ 64
