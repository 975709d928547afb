use Rattle.cs_different.specs.Under.{AreDifferentUnder, every_under}
use Rattle.cs_picks.proofs.Compared.{compared_fault}
use Rattle.cs_picks.proofs.different.write_different_under.Goals as goal

pub returns-in-Err-clause-fault : goal.returns-in-Err-clause-fault
returns-in-Err-clause-fault g c =
    compared_fault (AreDifferentUnder c.args.scene.now c.args.profile) (every_under c.args.scene.now c.args.profile) c.args.most
    c.in-Err.fault c.fault_of.result c.fault_of.ensures c.in-Err.ensures.refused
