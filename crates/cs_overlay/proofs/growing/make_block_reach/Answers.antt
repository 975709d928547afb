use Rattle.std.proofs.Common.{◌∙◌}
use Rattle.std.specs.BTreeMap.{get}
use Rattle.std.specs.Ordering.{nat_cmp}
use Rattle.cs_overlay.specs.Patch.{lower_bytes}
use Rattle.cs_overlay.proofs.Owning.{longer_byte, longer_reaches, longer_there}
use Rattle.cs_overlay.proofs.growing.make_block_reach.Goals as goal

pub returns-in_err-lengthen_block-clause-same : goal.returns-in_err-lengthen_block-clause-same
returns-in_err-lengthen_block-clause-same g c =
    λ i. longer_byte (get nat_cmp c.copy_block_up.new.blocks) (get nat_cmp c.lengthen_block.new.blocks) c.lengthen_block.ensures.longer
    (lower_bytes (g.L.TreeRead.tree c.args.lower.now) c.args.number) c.args.kept i ∙ c.copy_block_up.ensures.same i

pub returns-in_err-lengthen_block-clause-keeps : goal.returns-in_err-lengthen_block-clause-keeps
returns-in_err-lengthen_block-clause-keeps g c =
    λ a b r. longer_reaches (get nat_cmp c.copy_block_up.new.blocks) (get nat_cmp c.lengthen_block.new.blocks)
    c.lengthen_block.ensures.longer a b
    (c.copy_block_up.ensures.keeps a b r)

pub returns-clause-same : goal.returns-clause-same
returns-clause-same g c =
    λ i. longer_byte (get nat_cmp c.copy_block_up.new.blocks) (get nat_cmp c.lengthen_block.new.blocks) c.lengthen_block.ensures.longer
    (lower_bytes (g.L.TreeRead.tree c.args.lower.now) c.args.number) c.args.kept i ∙ c.copy_block_up.ensures.same i

pub returns-clause-keeps : goal.returns-clause-keeps
returns-clause-keeps g c =
    λ a b r. longer_reaches (get nat_cmp c.copy_block_up.new.blocks) (get nat_cmp c.lengthen_block.new.blocks)
    c.lengthen_block.ensures.longer a b
    (c.copy_block_up.ensures.keeps a b r)

pub returns-clause-there : goal.returns-clause-there
returns-clause-there g c =
    longer_there (get nat_cmp c.copy_block_up.new.blocks) (get nat_cmp c.lengthen_block.new.blocks) c.lengthen_block.ensures.longer
    c.args.index
    c.args.needed
    c.in_ok-copy_block_up.ensures.there c.in_ok-lengthen_block.ensures.there
