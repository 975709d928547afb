use Rattle.std.proofs.Common.{ap, ◌∙◌, length, map}
use Rattle.cs_sets.specs.Different.{firsts, leave_alike}
use Rattle.cs_sets.specs.Rows.{bit_in, needed_in}
use Rattle.cs_different.specs.Seen.{none_seen, see}
use Rattle.cs_different.specs.declared.classes.Class.{Class}
use Rattle.cs_different.proofs.ClassPlaces.{members_allowed, members_read}
use Rattle.cs_different.proofs.classes.class_sets.Goals as goal

pub returns-clause-allowed : goal.returns-clause-allowed
returns-clause-allowed c =
    members_allowed (see (bit_in c.args.wanted.now)) none_seen (needed_in c.args.needed.now) (length c.args.needed.now) c.requires.few
    c.in_ok-classes.classes.items c.in_ok-classes.ensures.classes c.in_ok-rows.rows.items
    (c.in_ok-rows.ensures ∙ ap (map (λ (class : Class). class.members)) c.deref.ensures.value)

pub returns-clause-firsts : goal.returns-clause-firsts
returns-clause-firsts c = λ like fine coarser.
    let act = see (bit_in c.args.wanted.now) in
    ap (firsts (leave_alike like act none_seen))
    (members_read act none_seen (needed_in c.args.needed.now) (length c.args.needed.now) c.requires.few
    c.in_ok-classes.classes.items c.in_ok-classes.ensures.classes c.in_ok-rows.rows.items
    (c.in_ok-rows.ensures ∙ ap (map (λ (class : Class). class.members)) c.deref.ensures.value))
    ∙ c.in_ok-classes.ensures.firsts like fine coarser
