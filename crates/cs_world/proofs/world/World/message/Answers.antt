use Rattle.std.proofs.Common.{◌∙◌, rules, sym, None}
use Rattle.std.proofs.lemmas.List.{get_or_default}
use Rattle.cs_session.specs.Sessions.{empty_session}
use Rattle.cs_world.proofs.Keeping.{replied}
use Rattle.cs_world.proofs.Listing.{by_message}
use Rattle.cs_world.proofs.world.World.message.Goals as goal

pub returns-then-awaits_attach-clause-fits : goal.returns-then-awaits_attach-clause-fits
returns-then-awaits_attach-clause-fits c =
    rw (
      ← c.self.view_is,
      get_or_default c.self.inside.sessions.items c.args.conn (empty_session None) c.index_mut-session.result.now
          (search rules) ∙ sym c.index_mut-session.ensures.value,
      ← c.msize.ensures.value,
    )
    (c.out_of_turn_reply.ensures.fits c.msize.result c.msize.ensures.agreed)

pub returns-clause-replied : goal.returns-clause-replied
returns-clause-replied c =
    λ idle. rw (← c.self.view_is)
    (replied c.args.now c.args.bytes.now _ _ _ _ _ _ _
    (get_or_default c.self.inside.sessions.items c.args.conn _ _ (search rules) ∙ sym c.index_mut-session.ensures.value) (search rules)
    c.reply.ensures.replied)

pub returns-clause-consistent : goal.returns-clause-consistent
returns-clause-consistent c =
    rw (← c.self.view_is)
    (λ ok. by_message _ c.args.conn c.args.now c.requires.connection c.index_mut-session.result.now c.reply.new.self
    (get_or_default c.self.inside.sessions.items c.args.conn _ _ (search rules) ∙ sym c.index_mut-session.ensures.value) c.reply.new.port
    c.args.bytes.now _ c.reply.ensures.replied ok)
