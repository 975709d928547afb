use Rattle.std.proofs.Common.{◌≡◌, length, ap, sym, ◌∙◌, arith}
use Rattle.cs_start.proofs.Recorded.{length-start}
use Rattle.cs_start.proofs.start_records.Start.len.Goals as goal

pub returns : goal.returns
returns c =
    let es = c.self.inside.entries.items in
    let all : length c.args.self.now ≡ length es = ap length (sym c.self.view_is) ∙ length-start c.self.inside.directory es in
    omega (arith, all, c.self.inside.entries.ok, c.len.ensures)
