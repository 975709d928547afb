use Rattle.std.specs.BTreeMap.{get}
use Rattle.std.specs.Ordering.{nat_cmp}
use Rattle.cs_overlay.proofs.Ranges.{all_lower, nothing_hidden, no_blocks}
use Rattle.cs_overlay.proofs.patched.Patched.of_lower.Goals as goal

pub returns-clause-bytes : goal.returns-clause-bytes
returns-clause-bytes c =
    λ lower long. all_lower lower (get nat_cmp c.new.result) (no_blocks c.new.result.entries c.new.ensures.len) c.args.size long

pub returns-clause-hides : goal.returns-clause-hides
returns-clause-hides c =
    λ lower i le. nothing_hidden lower (get nat_cmp c.new.result) (no_blocks c.new.result.entries c.new.ensures.len) c.args.size i le
