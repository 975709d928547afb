use Rattle.std.proofs.Common.{refl}
use Rattle.std.specs.String.{string_bytes}
use Rattle.cs_script.specs.Printed.{Acts, closed_text}
use Rattle.cs_script.specs.declared.script.Action.TheVariants.{HangUp}
use Rattle.cs_script.proofs.Told.{told_ok, told_err}
use Rattle.cs_script.proofs.running.end_connection.Goals as goal

pub returns-clause-ok : goal.returns-clause-ok
returns-clause-ok c =
    let said = c.hang_up.ensures in
    told_ok string_bytes (λ text. Acts c.args.world.now c.args.conn c.args.now HangUp text c.hang_up.new.self) (closed_text c.args.conn)
    c.closed_text.result (
      record {
        closed = λ h. (said.closed h).1;
        out_of_turn = λ h. (said.out_of_turn h).1;
        others = said.others;
      },
      refl,
    ) c.closed_text.ensures

pub returns-clause-err : goal.returns-clause-err
returns-clause-err c =
    let said = c.hang_up.ensures in
    told_err (λ text. Acts c.args.world.now c.args.conn c.args.now HangUp text c.hang_up.new.self) (closed_text c.args.conn)
    c.closed_text.result
    (record { closed = λ h. (said.closed h).1; out_of_turn = λ h. (said.out_of_turn h).1; others = said.others }, refl)
