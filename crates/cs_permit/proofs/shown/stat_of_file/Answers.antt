use Rattle.cs_permit.proofs.Showing.{stat_fits}
use Rattle.cs_permit.proofs.shown.stat_of_file.Goals as goal

pub returns-clause-fits : goal.returns-clause-fits
returns-clause-fits c =
    rw c.stat_with.ensures.value
    (stat_fits _ _ _ _ _ _ _ _ _ c.stat_with.ensures.fits c.requires c.user_text.ensures.shown c.user_text-2.ensures.shown
    c.user_text-3.ensures.shown)
