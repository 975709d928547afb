use Rattle.std.proofs.Common.{◌≡◌, length, true, refl, sym, ap, ◌∙◌, ◌+◌, ◌++◌, append_assoc, subst}
use Rattle.cs_sets.specs.Bits.{has_place}
use Rattle.cs_sets.specs.Different.{state_of}
use Rattle.cs_sets.specs.Rows.{bit_in, needed_in}
use Rattle.cs_different.specs.Classing.{AreGrown, extensions, members_at}
use Rattle.cs_different.specs.Seen.{none_seen, see}
use Rattle.cs_different.specs.declared.classes.Class.{Class}
use Rattle.cs_different.proofs.Leading.{without_is, one_extends, with_is, both_extend, grown_more}
use Rattle.cs_different.proofs.Rows.{cleared_out}
use Rattle.cs_different.proofs.Within.{common_seen, later_unseen, others_stay}
use Rattle.cs_different.proofs.classes.keep_choices.Goals as goal

pub returns-then-not-has_place-clause-grown : goal.returns-then-not-has_place-clause-grown
returns-then-not-has_place-clause-grown c = λ sets grown.
    let act = see (bit_in c.args.wanted.now) in
    let needs = needed_in c.args.needed.now in
    let n = length c.args.needed.now in
    let k = c.args.place in
    let class = c.args.class.now in
    let out : Class = record { members = class.members; common = c.clear.new.self } in
    let cleared = cleared_out c.args.needed.now class.common c.remove.new.self c.clear.new.self k _ c.requires.inside c.remove.ensures
    c.clear.ensures in
    subst (λ v. AreGrown act none_seen needs n (k + 1) (sets ++ v) c.keep.new.kept.items)
    (one_extends act none_seen needs c.requires.backward n k c.requires.inside class c.requires.is out (λ j. refl) cleared
    (sym c.has_place.ensures ∙ c.if-not-has_place.true))
    (grown_more act none_seen needs n (k + 1) sets c.args.kept.now.items c.keep.new.kept.items out c.in_ok-keep.ensures.kept
    (without_is act none_seen needs c.requires.backward n k c.requires.inside class c.requires.is out (λ j. refl) cleared)
    grown)

pub returns-clause-grown : goal.returns-clause-grown
returns-clause-grown c = λ sets grown.
    let wants = bit_in c.args.wanted.now in
    let act = see wants in
    let needs = needed_in c.args.needed.now in
    let n = length c.args.needed.now in
    let k = c.args.place in
    let class = c.args.class.now in
    let out : Class = record { members = class.members; common = c.clear.new.self } in
    let more : Class = record { members = c.set.new.self; common = c.common_after-common.result } in
    let ext = extensions needs n (k + 1) in
    let cleared = cleared_out c.args.needed.now class.common c.remove.new.self c.clear.new.self k _ c.requires.inside c.remove.ensures
    c.clear.ensures in
    let free : has_place class.common k ≡ true = sym c.has_place.ensures ∙ c.if-not-has_place.false in
    let state = state_of act none_seen (members_at k class) in
    let common = c.common_after-common.ensures in
    let stays = others_stay wants k class.common more.common common in
    let after = common_seen wants k class.common more.common common state c.requires.is.seen c.requires.is.unseen free in
    let later = later_unseen wants k class.common more.common common state c.requires.is.seen c.requires.is.unseen in
    let first = grown_more act none_seen needs n (k + 1) sets c.args.kept.now.items c.keep.new.kept.items out c.in_ok-keep.ensures.kept
    (without_is act none_seen needs c.requires.backward n k c.requires.inside class c.requires.is out (λ j. refl) cleared)
    grown in
    let second = grown_more act none_seen needs n (k + 1) (sets ++ ext out) c.keep.new.kept.items c.keep-2.new.kept.items more
    c.in_ok-keep-2.ensures.kept
    (with_is act none_seen needs c.requires.backward n k c.requires.inside class c.requires.is out (λ j. refl) cleared more free
    c.set.ensures stays after later)
    first in
    subst (λ v. AreGrown act none_seen needs n (k + 1) v c.keep-2.new.kept.items)
    (append_assoc sets (ext out) (ext more)
    ∙ ap (λ v. sets ++ v)
    (both_extend act none_seen needs c.requires.backward n k c.requires.inside class c.requires.is out (λ j. refl) cleared more free
    c.set.ensures stays after later))
    second
