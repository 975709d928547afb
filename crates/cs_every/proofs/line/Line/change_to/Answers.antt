use Rattle.cs_sets.specs.Bits.{has_place}
use Rattle.cs_every.proofs.Kept.{same_text}
use Rattle.cs_every.proofs.line.Line.change_to.Goals as goal

pub extend_text-requires-clause-text : goal.extend_text-requires-clause-text
extend_text-requires-clause-text c =
    let line = c.self.inside in
    same_text line.starts c.cut_text.new.text.items (has_place line.set) (has_place c.args.set.now) c.first_difference-first.result
    c.cut_text.ensures c.first_difference-first.ensures.same
