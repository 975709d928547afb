-- A few items in a row of places.
use Rattle.std.specs.Prelude.{List, take}
use Rattle.cs_wire.specs.declared.few.Few.{Few}

-- the items, without the places that are left
abbrev pub items_of : {T : Type 0} → Few T → List T
items_of few = take few.count few.places
