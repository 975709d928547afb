use Rattle.std.proofs.lemmas.Result.{IfOk-at_ok}
use Rattle.cs_picks.specs.Sets.{PrintsSets}
use Rattle.cs_picks.proofs.Printed.{prints_kept}
use Rattle.cs_picks.proofs.command.picks_of.Goals as goal

pub returns-clause-sets : goal.returns-clause-sets
returns-clause-sets g c = λ e.
    prints_kept c.args.inputs.now c.args.sets (g.W.Write.contents c.args.out.now) (g.W.Write.contents c.print_sets-done.new.out)
    (g.W.Write.contents c.exit_status.new.out)
    (IfOk-at_ok (λ u. PrintsSets c.args.inputs.now c.args.sets (g.W.Write.contents c.args.out.now)
    (g.W.Write.contents c.print_sets-done.new.out))
    (c.exit_status.ensures.done e) c.print_sets-done.ensures)
    c.exit_status.ensures.kept
