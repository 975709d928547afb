use Rattle.std.proofs.Common.{◌≡◌, false, take}
use Rattle.std.specs.List.{list_any}
use Rattle.cs_different.specs.Classing.{one_key}
use Rattle.cs_different.proofs.classes.is_among.Given as goal

abbrev pub invariant-loop-found : goal.invariant-loop-found
invariant-loop-found l = list_any (λ y. one_key y l.class) (take l.found-index l.kept) ≡ false
