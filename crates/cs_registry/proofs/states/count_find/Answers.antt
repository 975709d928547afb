use Rattle.std.proofs.Common.{◌≡◌, ◌∙◌, ◌+◌, arith, refl, true, false}
use Rattle.std.specs.Prelude.{nat_le}
use Rattle.std.proofs.lemmas.Bool.Decides.{nat_tests}
use Rattle.cs_names.specs.declared.limits.TheConstants.{RUN_ATTACHES}
use Rattle.cs_registry.specs.declared.found.Found.{Found}
use Rattle.cs_registry.proofs.Changing.{changed, room_at, unchanged}
use Rattle.cs_registry.proofs.states.count_find.Goals as goal

pub returns-then-run-ge-RUN_ATTACHES-clause-err : goal.returns-then-run-ge-RUN_ATTACHES-clause-err
returns-then-run-ge-RUN_ATTACHES-clause-err g c =
    let run : Found g.row.H.Denot = c.pair_mut-run.result.1.now in
    let there = c.pair_mut-run.ensures.value in
    let most : nat_le RUN_ATTACHES run.finds ≡ true = grind (arith, nat_tests) in
    (refl, room_at c.args.runs.now.entries c.args.place _ run there ∙ most, unchanged c.args.runs.now.entries c.args.place _ run there)

pub returns-clause-ok : goal.returns-clause-ok
returns-clause-ok g c =
    let run : Found g.row.H.Denot = c.pair_mut-run.result.1.now in
    let there = c.pair_mut-run.ensures.value in
    let fewer : nat_le RUN_ATTACHES run.finds ≡ false = grind (arith, nat_tests) in (
      refl,
      room_at c.args.runs.now.entries c.args.place _ run there ∙ fewer,
      changed (λ (f : Found g.row.H.Denot). record f {
        finds = f.finds + 1;
      }) c.args.runs.now.entries c.args.place _ run there,
    )
