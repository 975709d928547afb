use Rattle.cs_world.proofs.Asked.{can_be_asked}
use Rattle.cs_world.proofs.Staying.{new_is_consistent, stays_consistent}
use Rattle.cs_world.proofs.Listing.{steps_keep}
use Rattle.cs_world.proofs.Theorem.{began}
use Rattle.cs_world.proofs.laws.worlds_are_consistent.Goals as goal

pub returns : goal.returns
returns c = record { new = new_is_consistent; step = stays_consistent; steps = steps_keep; asked = can_be_asked; began = began }
