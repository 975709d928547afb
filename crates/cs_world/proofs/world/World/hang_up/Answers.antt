use Rattle.std.proofs.Common.{◌∙◌, rules, refl, sym}
use Rattle.std.proofs.lemmas.List.{get_or_default}
use Rattle.cs_session.specs.declared.message.Message.TheVariants as m
use Rattle.cs_world.proofs.Keeping.{answered}
use Rattle.cs_world.proofs.Listing.{by_answer}
use Rattle.cs_world.proofs.world.World.hang_up.Goals as goal

pub returns-clause-closed : goal.returns-clause-closed
returns-clause-closed c =
    λ idle. (
      refl,
      rw (← c.self.view_is)
          (answered c.args.now m.HangUp _ _ _ _ _ _ _
          (get_or_default c.self.inside.sessions.items c.args.conn _ _ (search rules) ∙ sym c.index_mut-session.ensures.value)
          (search rules)
          c.hang_up.ensures.answered),
    )

pub returns-clause-consistent : goal.returns-clause-consistent
returns-clause-consistent c =
    rw (← c.self.view_is)
    (λ ok. by_answer _ c.args.conn c.args.now c.requires.connection c.index_mut-session.result.now c.hang_up.new.self
    (get_or_default c.self.inside.sessions.items c.args.conn _ _ (search rules) ∙ sym c.index_mut-session.ensures.value) c.hang_up.new.port
    m.HangUp _ c.hang_up.ensures.answered ok)
