use Rattle.std.proofs.Common.{◌≡◌, min, take}
use Rattle.std.specs.List.{sum_by}
use Rattle.cs_sets.proofs.count.total.Given as goal

abbrev pub invariant-loop-future : goal.invariant-loop-future
invariant-loop-future l = l.sum ≡ min (sum_by (λ f. f.sets) (take l.future-index l.futures)) l.most
