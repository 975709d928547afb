use Rattle.std.proofs.Common.{◌≡◌, ◌∙◌, ap, sym, length, arith}
use Rattle.std.specs.FinMap.{len}
use Rattle.cs_fids.specs.Tables.{Fids}
use Rattle.cs_fids.proofs.Maps.{len_is}
use Rattle.cs_fids.proofs.table.FidTable.reserve.Goals as goal

pub returns-then-len-ge-FIDS-clause-memory : goal.returns-then-len-ge-FIDS-clause-memory
returns-then-len-ge-FIDS-clause-memory c = λ few.
    let same : len c.args.self.now.fids ≡ length c.self.inside.fids.entries =
    ap (λ (t : Fids). len t.fids) (sym c.self.view_is) ∙ len_is c.self.inside.fids.entries c.self.invariant.0.distinct in
    absurd (omega arith)

pub returns-in_err-reserve-clause-full : goal.returns-in_err-reserve-clause-full
returns-in_err-reserve-clause-full c = λ full.
    let same : len c.args.self.now.fids ≡ length c.self.inside.fids.entries =
    ap (λ (t : Fids). len t.fids) (sym c.self.view_is) ∙ len_is c.self.inside.fids.entries c.self.invariant.0.distinct in
    absurd (omega arith)

pub returns-clause-full : goal.returns-clause-full
returns-clause-full c = λ full.
    let same : len c.args.self.now.fids ≡ length c.self.inside.fids.entries =
    ap (λ (t : Fids). len t.fids) (sym c.self.view_is) ∙ len_is c.self.inside.fids.entries c.self.invariant.0.distinct in
    absurd (omega arith)
