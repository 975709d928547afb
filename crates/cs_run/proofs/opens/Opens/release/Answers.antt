use Rattle.std.proofs.Common.{List, subst}
use Rattle.cs_run.proofs.Joining.{without_one}
use Rattle.cs_run.specs.Blocks.{Block, HasOpen}
use Rattle.cs_run.proofs.opens.Opens.release.Goals as goal

pub invariant_of-self : goal.invariant_of-self
invariant_of-self c =
    without_one c.self.inside.blocks.items c.remove_open.new.blocks.items c.self.inside.count c.in_ok-place.place.block_index
    c.in_ok-place.place.at c.self.invariant
    (subst (λ (blocks : List Block). HasOpen blocks c.in_ok-place.place.block_index c.in_ok-place.place.at) c.as_slice.ensures.value
    c.in_ok-place.ensures.has_open) c.remove_open.ensures.opens c.remove_open.ensures.filled
