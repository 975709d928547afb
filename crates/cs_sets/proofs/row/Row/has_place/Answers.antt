use Rattle.std.proofs.Common.{◌==◌, ap, get_or, ◌/◌, ◌%◌}
use Rattle.std.proofs.lemmas.Nat.Bits.{shr_and_one}
use Rattle.cs_sets.specs.Bits.{has_place}
use Rattle.cs_sets.proofs.row.Row.has_place.Goals as goal

pub returns : goal.returns
unfolding has_place
returns c = ap (λ x. x == 1) (shr_and_one (get_or c.args.self.now.words (c.args.place / 64) 0) (c.args.place % 64))
