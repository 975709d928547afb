use Rattle.std.proofs.Common.{arith}
use Rattle.cs_different.proofs.Rows.{bits_past}
use Rattle.cs_different.proofs.Shown.{set_less, set_shown}
use Rattle.cs_different.proofs.under.show.Goals as goal

pub returns-then-place-len-clause-less : goal.returns-then-place-len-clause-less
returns-then-place-len-clause-less c = set_less c.args.wanted.now.items c.args.place c.empty.result c.empty.ensures (omega arith)

pub returns-then-place-len-clause-none : goal.returns-then-place-len-clause-none
returns-then-place-len-clause-none c = set_shown c.args.wanted.now.items c.args.place c.empty.result c.empty.ensures (omega arith)

pub returns-else-place-len-clause-none : goal.returns-else-place-len-clause-none
returns-else-place-len-clause-none c = λ z. bits_past c.args.wanted.now.items z c.args.place (omega arith)
