use Rattle.std.proofs.Common.{◌≡◌, map, take}
use Rattle.cs_sets.specs.Places.{places_of}
use Rattle.cs_different.specs.Shapes.{shape_left}
use Rattle.cs_different.proofs.shapes.shapes_of.Given as goal

abbrev pub invariant-loop-set : goal.invariant-loop-set
invariant-loop-set l = l.shapes.items ≡ map (λ row. shape_left l.parts.tables (places_of row)) (take l.set-index l.sets)
