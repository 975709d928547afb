use Rattle.std.proofs.Common.{◌≡◌, false, take}
use Rattle.cs_permit.specs.Opens.{is_open as is_on}
use Rattle.cs_run.specs.Blocks.{all_opens}
use Rattle.cs_run.proofs.blocks.first_block_on_file.Given as goal

-- no open of the blocks before is on the file
abbrev pub invariant-loop-block : goal.invariant-loop-block
invariant-loop-block l = is_on (all_opens (take l.block-index l.blocks)) l.file ≡ false
