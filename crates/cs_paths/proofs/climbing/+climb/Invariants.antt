use Rattle.cs_paths.proofs.climbing.+climb.Given as goal

abbrev pub decreases-climb : goal.decreases-climb
decreases-climb l = l.deep
