use Rattle.std.proofs.Common.{ap, subst}
use Rattle.std.specs.Cow.{cow_str_bytes}
use Rattle.cs_wire.specs.declared.message.RBody.{RBody}
use Rattle.cs_wire.specs.declared.message.RMessage.{RMessage}
use Rattle.cs_wire.specs.Messages.{r_view}
use Rattle.cs_linux.specs.Messages.{IsLinuxText}
use Rattle.cs_linux.proofs.Changed.{no_error, told_error}
use Rattle.cs_linux.proofs.replies.reply_to_linux.Goals as goal
use Rattle.cs_linux.proofs.replies.reply_to_linux.Goals.{in-Error+in-Owned-1, in-Error+in-Borrowed-1, in_default}

pub returns-clause-error : goal.returns-clause-error
returns-clause-error c = λ tag text e. elim c.match-body.branch [
  | in-Error+in-Owned-1 w ↦ told_error c.args.reply.tag c.args.reply.body c.match-body.body w.in-Error.ename w.linux_text.result
      w.in-Error.is w.body-is (subst (λ t. IsLinuxText t w.linux_text.result.now) w.as_str.ensures.value w.linux_text.ensures) tag text e
  | in-Error+in-Borrowed-1 w ↦ told_error c.args.reply.tag c.args.reply.body c.match-body.body w.in-Error.ename w.linux_text.result
      w.in-Error.is w.body-is (subst (λ t. IsLinuxText t w.linux_text.result.now) w.as_str.ensures.value w.linux_text.ensures) tag text e
  | in_default w ↦ absurd (no_error c.args.reply.tag c.args.reply.body w.in_default.not-Error tag text e)
]

pub returns-clause-other : goal.returns-clause-other
returns-clause-other c = λ none.
    let reply : RBody → RMessage = λ b. record { tag = c.args.reply.tag; body = b } in
    let with = λ (b : RBody). r_view record { tag = c.args.reply.tag; body = b } in
    elim c.match-body.branch [
      | in-Error+in-Owned-1 w ↦ absurd (none c.args.reply.tag (cow_str_bytes w.in-Error.ename) (ap with w.in-Error.is))
      | in-Error+in-Borrowed-1 w ↦ absurd (none c.args.reply.tag (cow_str_bytes w.in-Error.ename) (ap with w.in-Error.is))
      | in_default w ↦ ap reply w.body-is
    ]
