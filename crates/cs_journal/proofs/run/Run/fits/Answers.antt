use Rattle.std.proofs.Common.{◌≡◌, ◌∙◌, Some, refl, sym}
use Rattle.std.proofs.lemmas.Option.{slice_get_read}
use Rattle.std.specs.Prelude.{slice_get}
use Rattle.cs_journal.proofs.Fitting.{fits_where_counted}
use Rattle.cs_journal.proofs.Ends.{along}
use Rattle.cs_journal.specs.Runs.{Fits}
use Rattle.cs_journal.proofs.run.Run.fits.Goals as goal

pub returns-in-Some : goal.returns-in-Some
returns-in-Some g c =
    let i = c.self.inside in
    let p = c.args.pass.now in
    let h = slice_get_read c.deref.result.now _ c.pass.inside.number c.in-Some.counts.now refl c.in-Some.ensures.lookup.3.0
    c.in-Some.ensures.lookup.1 in
    let there : slice_get i.passes.items p.number ≡ Some c.in-Some.counts.now =
    (λ j. slice_get (sym c.deref.ensures.value j) (sym c.pass.view_is j).number) ∙ h in
    let both =
    fits_where_counted _ i.tree _ i.opens.items i.journal.items i.passes.items c.self.invariant.0 p c.in-Some.counts.now there in (
      λ yes. along Fits c.args.self.now _ p p (sym c.self.view_is) refl (both.0 (c.are_counts_of.ensures.0 yes)),
      λ fits. c.are_counts_of.ensures.1 (both.1 (along Fits _ c.args.self.now p p c.self.view_is refl fits)),
    )
