use Rattle.std.proofs.Common.{refl}
use Rattle.std.specs.String.{string_bytes}
use Rattle.cs_wire.specs.Messages.{r_view}
use Rattle.cs_script.specs.Printed.{Acts, reply_text}
use Rattle.cs_script.specs.declared.script.Action.TheVariants.{Send}
use Rattle.cs_script.proofs.Told.{told_ok, told_err}
use Rattle.cs_script.proofs.running.answer_message.Goals as goal

pub returns-clause-ok : goal.returns-clause-ok
returns-clause-ok g c =
    let said = c.message-reply.ensures in
    told_ok string_bytes (λ text. Acts c.args.world.now c.args.conn c.args.now (Send c.args.message.now) text c.message-reply.new.self)
    (reply_text c.args.conn (r_view c.message-reply.result)) c.reply_text.result (
      r_view c.message-reply.result,
      record {
        replied = said.replied;
        out_of_turn = said.out_of_turn;
        others = said.others;
      },
      refl,
    ) c.reply_text.ensures

pub returns-clause-err : goal.returns-clause-err
returns-clause-err g c =
    let said = c.message-reply.ensures in
    told_err (λ text. Acts c.args.world.now c.args.conn c.args.now (Send c.args.message.now) text c.message-reply.new.self)
    (reply_text c.args.conn (r_view c.message-reply.result)) c.reply_text.result
    (r_view c.message-reply.result, record { replied = said.replied; out_of_turn = said.out_of_turn; others = said.others }, refl)
