use Rattle.std.proofs.Common.{◌∙◌, arith}
use Rattle.std.specs.Ordering.{nat_cmp}
use Rattle.std.specs.BTreeMap.{get}
use Rattle.cs_overlay.specs.Patch.{byte_at}
use Rattle.cs_overlay.proofs.Patching.{bytes_of_length, byte_before, byte_behind}
use Rattle.cs_overlay.proofs.patched.Patched.shrink.Goals as goal

pub returns-clause-hides : goal.returns-clause-hides
returns-clause-hides c = λ lower i le.
    (λ j. byte_at lower (c.min-self.ensures j) (λ k. c.in_ok-truncate_blocks.ensures.ok k j) i)
    ∙ byte_behind lower c.args.self.now.kept (get nat_cmp c.args.self.now.blocks) c.args.size i le

pub returns-clause-bytes : goal.returns-clause-bytes
returns-clause-bytes c = λ lower. bytes_of_length
    (byte_at lower c.args.self.now.kept (get nat_cmp c.args.self.now.blocks))
    (byte_at lower c.min-self.result (get nat_cmp c.truncate_blocks.new.blocks)) c.args.self.now.size c.args.size
    (λ i lt below. (λ j. byte_at lower (c.min-self.ensures j) (λ k. c.in_ok-truncate_blocks.ensures.ok k j) i)
    ∙ byte_before lower c.args.self.now.kept (get nat_cmp c.args.self.now.blocks) c.args.size i lt)
    (λ i lt behind. absurd (omega (arith, c.requires)))
