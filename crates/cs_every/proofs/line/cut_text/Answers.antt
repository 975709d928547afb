use Rattle.std.proofs.Common.{subst, sym}
use Rattle.cs_sets.specs.Bits.{has_place}
use Rattle.cs_sets.specs.Finding.{HasNone, IsNext}
use Rattle.cs_every.specs.Lines.{IsText}
use Rattle.cs_every.proofs.Kept.{cut_text_at, shorter_text}
use Rattle.cs_every.proofs.line.cut_text.Goals as goal

pub returns-in-Some : goal.returns-in-Some
returns-in-Some c =
    let has = has_place c.args.set.now in
    let next : IsNext has c.args.end 1024 c.in-Some.place = c.in-Some.ensures in
    subst (λ v. IsText c.args.starts.now v has c.args.end) (sym c.truncate.ensures.items)
    (cut_text_at c.args.starts.now c.args.text.now.items has c.args.end 1024 c.in-Some.place next c.requires.text)

pub returns-in_default : goal.returns-in_default
returns-in_default c =
    let has = has_place c.args.set.now in
    let none : HasNone has c.args.end 1024 = c.in_default.ensures in
    shorter_text c.args.starts.now c.args.text.now.items has c.args.end 1024 c.requires.end none c.requires.text
