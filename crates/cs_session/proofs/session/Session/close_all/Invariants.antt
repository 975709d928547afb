use Rattle.std.proofs.Common.{◌≡◌, None, true}
use Rattle.std.specs.FinMap.{len}
use Rattle.cs_session.specs.declared.message.Message.{Message}
use Rattle.cs_session.specs.declared.reply.Reply.{Reply}
use Rattle.cs_session.specs.Messages.{IsAnswered, closes_first}
use Rattle.cs_session.specs.Sessions.{SessionState}
use Rattle.cs_session.proofs.session.Session.close_all.Given as goal

abbrev pub invariant-loop-fid : goal.invariant-loop-fid
invariant-loop-fid g l = record {
  awaited : l.self.awaited ≡ None;
  before : (message : Message) (reply : Reply) (s : SessionState) (p : g.row.P.Denot) → closes_first message ≡ true
      → IsAnswered g.P.Port.gives l.fn.now message l.self l.port reply s p
      → IsAnswered g.P.Port.gives l.fn.now message l.fn.self l.fn.port reply s p;
}

abbrev pub decreases-loop-fid : goal.decreases-loop-fid
decreases-loop-fid g l = len l.self.fids
