use Rattle.cs_world.proofs.Listing.{by_step}
use Rattle.cs_world.proofs.Theorem as theorem
use Rattle.cs_world.proofs.world.World.step.Goals as goal

pub returns-clause-consistent : goal.returns-clause-consistent
returns-clause-consistent c = λ ok. by_step c.args.self.now c.take_step.new.self c.args.step c.take_step.result c.take_step.ensures ok

pub returns-clause-judged : goal.returns-clause-judged
returns-clause-judged c = λ ok. theorem.by_step c.args.self.now ok c.args.step c.take_step.result c.take_step.new.self c.take_step.ensures
