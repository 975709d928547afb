use Rattle.std.proofs.Common.{◌≡◌, length}
use Rattle.std.specs.Arc.{arc_value}
use Rattle.cs_registry.proofs.Keeping.{none_is_empty, none_kept}
use Rattle.cs_registry.proofs.states.States.new.Goals as goal

pub invariant_of-result : goal.invariant_of-result
invariant_of-result g c =
    let count : c.len-count.result ≡ length (arc_value c.args.scene).plan = cc in (
      none_kept (arc_value c.args.scene) _ _ _ count c.in_ok-no_states.ensures c.new.ensures.empty g.H.Held.admits arc_value
          c.requires.admitted,
      c.requires.suited,
    )

pub returns : goal.returns
returns g c =
    let count : c.len-count.result ≡ length (arc_value c.args.scene).plan = cc in
    none_is_empty (arc_value c.args.scene) _ _ _ count c.in_ok-no_states.ensures c.new.ensures.empty (arc_value c.args.users)
