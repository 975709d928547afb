use Rattle.std.proofs.Common.{nat_eq}
use Rattle.std.specs.HashMap.{get}
use Rattle.cs_tree.proofs.Lookups.{next_is}
use Rattle.cs_tree.proofs.plain.PlainTreeTreeRead.last_number.Goals as goal

pub returns : goal.returns
returns c = next_is (get nat_eq c.self.inside.nodes) _ c.self.invariant _ c.self.view_is
