use Rattle.cs_list.specs.Listings.{AreStateObjects}
use Rattle.cs_list.proofs.json_listing.state_objects.Given as goal

abbrev pub invariant-loop-number : goal.invariant-loop-number
invariant-loop-number l = AreStateObjects l.scene l.firsts l.number l.text.items
