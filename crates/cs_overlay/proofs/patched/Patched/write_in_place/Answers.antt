use Rattle.std.proofs.Common.{ap, ◌∙◌, map}
use Rattle.std.specs.BTreeMap.{get}
use Rattle.std.specs.List.{range_with_len}
use Rattle.std.specs.Ordering.{nat_cmp}
use Rattle.cs_overlay.specs.Patch.{byte_at}
use Rattle.cs_overlay.proofs.Placing.{written_bytes}
use Rattle.cs_overlay.proofs.patched.Patched.write_in_place.Goals as goal

pub returns-clause-bytes : goal.returns-clause-bytes
returns-clause-bytes c =
    λ lower hides. ap (λ n. map (byte_at lower c.args.self.now.kept (get nat_cmp c.write_blocks.new.blocks)) (range_with_len 0 n))
    c.max-self.ensures ∙ written_bytes (byte_at lower c.args.self.now.kept (get nat_cmp c.args.self.now.blocks))
    (byte_at lower c.args.self.now.kept (get nat_cmp c.write_blocks.new.blocks)) c.args.self.now.size c.args.offset c.args.bytes.now
    (c.write_blocks.ensures lower c.args.self.now.kept) hides c.requires.some
