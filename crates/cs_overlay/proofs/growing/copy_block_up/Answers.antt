use Rattle.std.proofs.Common.{◌/◌, ap, sym, ◌∙◌}
use Rattle.std.specs.BTreeMap.{get, is_at}
use Rattle.std.specs.Map.{lookup}
use Rattle.std.specs.Ordering.{nat_cmp}
use Rattle.cs_overlay.proofs.Owning.{absent, own_reaches}
use Rattle.cs_overlay.proofs.growing.copy_block_up.Goals as goal

pub returns-in_err-insert-clause-keeps : goal.returns-in_err-insert-clause-keeps
returns-in_err-insert-clause-keeps g c =
    λ a b r i lo hi. (let o = r i lo hi in (o.0, ap (λ es. lookup (is_at (nat_cmp (i / 4096))) es) c.in_err-insert.ensures.err ∙ o.1, o.2))

pub returns-clause-keeps : goal.returns-clause-keeps
returns-clause-keeps g c =
    own_reaches (get nat_cmp c.args.blocks.now) (get nat_cmp c.insert.new.self) c.args.index c.in_ok-block.block
    c.in_ok-insert.ensures.updates.0 (absent _ (sym c.contains_key.ensures ∙ c.if-contains_key.false))
