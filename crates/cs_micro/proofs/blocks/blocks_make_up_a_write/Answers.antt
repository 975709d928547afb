use Rattle.cs_micro.proofs.Whole.{blocks_whole}
use Rattle.cs_micro.proofs.blocks.blocks_make_up_a_write.Goals as goal

pub returns : goal.returns
returns c = blocks_whole c.args.block_size c.args.offset c.args.bytes.now c.requires
