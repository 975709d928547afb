use Rattle.std.proofs.Common.{◌≡◌}
use Rattle.cs_list.specs.Listings.{AreObjects}
use Rattle.cs_list.specs.Paths.{entries_before}
use Rattle.cs_list.proofs.json_listing.op_objects.Given as goal

abbrev pub invariant-loop-place : goal.invariant-loop-place
invariant-loop-place l = record {
  objects : AreObjects l.scene l.lines l.place l.text.items;
  held : l.paths ≡ entries_before l.scene l.place;
}
