use Rattle.std.proofs.Common.{◌≡◌, map, take}
use Rattle.cs_different.proofs.classes.rows_of.Given as goal

abbrev pub invariant-loop-class : goal.invariant-loop-class
invariant-loop-class l = l.rows.items ≡ map (λ class. class.members) (take l.class-index l.classes)
