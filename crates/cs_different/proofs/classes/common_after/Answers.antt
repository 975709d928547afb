use Rattle.std.proofs.Common.{◌∙◌}
use Rattle.cs_sets.specs.Bits.{has_place}
use Rattle.cs_sets.specs.Rows.{bit_in}
use Rattle.cs_different.specs.Seen.{has_wanted}
use Rattle.cs_different.proofs.Within.{found_wanted, place_cut, place_stays}
use Rattle.cs_different.proofs.classes.common_after.Goals as goal

pub returns-then-not-is_within : goal.returns-then-not-is_within
returns-then-not-is_within c =
    place_cut (has_wanted (bit_in c.args.wanted.now) c.args.place (has_place c.args.common.now)) c.args.common.now c.clear.new.self
    c.args.place
    (found_wanted c.args.wanted.now c.args.place c.requires.inside c.requires.earlier c.args.common.now c.is_within.result _
    c.is_within.ensures ∙ c.if-not-is_within.true)
    c.clear.ensures

pub returns-else-not-is_within : goal.returns-else-not-is_within
returns-else-not-is_within c =
    place_stays (has_wanted (bit_in c.args.wanted.now) c.args.place (has_place c.args.common.now)) c.args.common.now c.args.place
    (found_wanted c.args.wanted.now c.args.place c.requires.inside c.requires.earlier c.args.common.now c.is_within.result _
    c.is_within.ensures ∙ c.if-not-is_within.false)
