use Rattle.std.proofs.Common.{refl}
use Rattle.std.specs.Ordering.{nat_cmp}
use Rattle.std.specs.BTreeMap.{get}
use Rattle.cs_overlay.specs.Patch.{byte_at}
use Rattle.cs_overlay.proofs.Patching.{bytes_of_length}
use Rattle.cs_overlay.proofs.patched.Patched.grow.Goals as goal

pub returns-clause-bytes : goal.returns-clause-bytes
returns-clause-bytes c = λ lower hides.
    let f = byte_at lower c.args.self.now.kept (get nat_cmp c.args.self.now.blocks) in
    bytes_of_length f f c.args.self.now.size c.args.size (λ i lt below. refl) (λ i lt behind. hides i behind)
