use Rattle.std.proofs.Common.{◌≡◌}
use Rattle.serde_json.specs.View.{items_view}
use Rattle.cs_inputs.specs.PickLines.{places_of}
use Rattle.cs_inputs.proofs.ReadingPicks.{placed, places_from}
use Rattle.cs_inputs.proofs.pick_line.as_places.Given as goal

abbrev pub invariant-loop-value : goal.invariant-loop-value
invariant-loop-value l = placed l.places.items (places_from l.values l.value-index) ≡ places_of (items_view l.values)
