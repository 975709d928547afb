use Rattle.std.proofs.Common.{◌≤◌, arith, decimal, length}
use Rattle.std.proofs.lemmas.Fmt.{length-decimal-le}
use Rattle.cs_every.proofs.line.push_place.Goals as goal

pub push_digits-requires : goal.push_digits-requires
push_digits-requires c =
    let digits : length (decimal c.args.place) ≤ 4 =
    length-decimal-le 4 c.args.place (omega arith) (omega arith) (omega arith) in
    omega (arith, digits)
