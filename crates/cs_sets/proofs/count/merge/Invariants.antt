use Rattle.std.proofs.Common.{ℕ, Bool, take}
use Rattle.std.specs.List.Sorted.{IsSortedByKey}
use Rattle.cs_sets.specs.Counting.{weigh, Capped}
use Rattle.cs_sets.specs.Crowding.{AreReached, left_of}
use Rattle.cs_sets.specs.Drawing.{row_cmp}
use Rattle.cs_sets.proofs.Crowding.{IsMerged}
use Rattle.cs_sets.proofs.count.merge.Given as goal

abbrev pub invariant-loop-future : goal.invariant-loop-future
invariant-loop-future l = record {
  weight : (needs : ℕ → ℕ → Bool) (m k : ℕ) → Capped l.most (weigh needs m k l.merged.items)
      (weigh needs m k (take l.future-index l.futures));
  reached : (needs : ℕ → ℕ → Bool) (n k : ℕ) → AreReached needs n k l.futures → AreReached needs n k l.merged.items;
  merged : IsSortedByKey left_of row_cmp l.futures → IsMerged l.futures l.future-index l.merged.items;
}
