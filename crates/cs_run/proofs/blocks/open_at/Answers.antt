use Rattle.cs_run.proofs.Joining.{lies_at}
use Rattle.cs_run.proofs.blocks.open_at.Goals as goal

pub returns : goal.returns
returns c =
    lies_at c.args.blocks.now c.args.place.block_index c.args.place.at c.index-blocks-place.result c.requires c.index-blocks-place.is _
    c.as_slice-opens.ensures.value _
