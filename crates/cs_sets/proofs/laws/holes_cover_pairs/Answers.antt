use Rattle.cs_sets.specs.Laws.Holes.{hole_loses, lacks_is_hole, lost_is_kept}
use Rattle.cs_sets.proofs.laws.holes_cover_pairs.Goals as goal

pub returns : goal.returns
returns c = record {
  kept = λ needs n i k places back allowed loses. lost_is_kept needs back n i k places allowed loses;
  loses = λ needs i k back low kept. hole_loses needs back i k low kept;
  single = λ needs n i k places back low allowed lacks. lacks_is_hole needs back n i k places low allowed lacks;
}
