-- Trees whose versions and next number can grow with a journal.
use Rattle.std.proofs.Common.{◌≡◌, ◌≤◌, Some, arith}
use Rattle.cs_names.specs.declared.limits.TheConstants.{TREE_RECORDS}
use Rattle.cs_journal.specs.Bounds.{CanGrow}
use Rattle.cs_tree_model.specs.Tree.{Path, Tree, record_at}
use Rattle.cs_tree_model.specs.declared.record.Record.{Record}

-- a tree in which no file was changed can: each has version 0, and the next number is small
pub unchanged_can_grow : (t : Tree) → ((p : Path) (r : Record) → record_at t p ≡ Some r → r.vers ≡ 0) → t.next ≤ TREE_RECORDS → CanGrow t
unchanged_can_grow t versions few = record {
  versions = λ p r there. let none : r.vers ≡ 0 = versions p r there in omega arith;
  next = omega (arith, few);
}
