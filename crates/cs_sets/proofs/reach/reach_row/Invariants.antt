use Rattle.cs_sets.specs.Rows.{bit_in}
use Rattle.cs_sets.proofs.Reaching.{IsPart}
use Rattle.cs_sets.proofs.reach.reach_row.Given as goal

abbrev pub invariant-loop-m : goal.invariant-loop-m
invariant-loop-m l = IsPart (bit_in l.rows) l.row l.k l.m
