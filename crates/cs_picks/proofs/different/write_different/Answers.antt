use Rattle.cs_different.specs.Sets.{AreDifferent}
use Rattle.cs_picks.specs.Sets.{every_in}
use Rattle.cs_picks.proofs.Compared.{compared_fault}
use Rattle.cs_picks.proofs.different.write_different.Goals as goal

pub returns-in-Err-clause-fault : goal.returns-in-Err-clause-fault
returns-in-Err-clause-fault g c =
    compared_fault (AreDifferent c.args.scene.now) (every_in c.args.scene.now) c.args.most c.in-Err.fault c.fault_of.result
    c.fault_of.ensures c.in-Err.ensures.refused
