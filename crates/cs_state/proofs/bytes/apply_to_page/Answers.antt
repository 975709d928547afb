use Rattle.std.proofs.Common.{◌≡◌, ◌+◌, ◌-◌, ◌<◌, ◌≤◌, ◌*◌, ⊎_elim, ap, ◌∙◌, arith, length, min}
use Rattle.cs_state.specs.declared.file_steps.TheConstants.{PAGE_BYTES}
use Rattle.cs_state.specs.Steps.{struck_by}
use Rattle.cs_state.specs.Windows.{byte_of}
use Rattle.cs_state.proofs.Joining.{mid_above, mid_below, mid_inside, middle_at, middle_long}
use Rattle.cs_state.proofs.bytes.apply_to_page.Goals as goal

pub returns-clause-inside : goal.returns-clause-inside
returns-clause-inside c = λ f was k low ge less.
    let part = c.args.part.now in
    let offset = c.args.offset in
    let page = c.args.page in
    let from = c.saturating_sub-from.result in
    let end = c.min-end.result in
    let begins = c.requires.begins in
    let ends = c.requires.ends in
    let first : from ≡ page * PAGE_BYTES - offset = c.saturating_sub-from.ensures in
    let room = c.requires.room in
    let past = c.saturating_add.ensures in
    let least = c.min-end.ensures in
    let last : end ≡ min (length part) (page * PAGE_BYTES + PAGE_BYTES - offset) = omega (arith, past, least, room, ends) in
    let middle = middle_long from end part (omega (arith, last)) in
    let long : length c.apply_members_to_part.new.part ≡ end - from = c.apply_members_to_part.ensures.long ∙ middle in
    let here : k < length part = (let all = c.apply_members_to_part.auto.part in omega (arith, low)) in
    mid_inside from (end - from) part c.apply_members_to_part.new.part (omega (arith, first, begins)) long k (omega (arith, first, ge))
    (omega (arith, first, last, ge, less, here))
    ∙ c.apply_members_to_part.ensures.part f (λ j l.
    middle_at from end j part (omega (arith, l, middle))
    ∙ was (from + j) (omega (arith, l, middle, last)) (omega (arith, first)) (omega (arith, l, middle, last, first, ends))
    ∙ (let e : offset + (from + j) ≡ offset + from + j = omega arith in ap (byte_of f) e)) (k - from)
    (omega (arith, long, first, last, ge, less, here))
    ∙ (let e : offset + from + (k - from) ≡ offset + k = omega (arith, first, ge) in
    ap (byte_of (struck_by c.args.ops.now c.args.members.now f c.args.places.now)) e)

pub returns-clause-outside : goal.returns-clause-outside
returns-clause-outside c = λ k apart.
    let part = c.args.part.now in
    let offset = c.args.offset in
    let page = c.args.page in
    let from = c.saturating_sub-from.result in
    let end = c.min-end.result in
    let begins = c.requires.begins in
    let ends = c.requires.ends in
    let first : from ≡ page * PAGE_BYTES - offset = c.saturating_sub-from.ensures in
    let room = c.requires.room in
    let past = c.saturating_add.ensures in
    let least = c.min-end.ensures in
    let last : end ≡ min (length part) (page * PAGE_BYTES + PAGE_BYTES - offset) = omega (arith, past, least, room, ends) in
    let new = c.apply_members_to_part.new.part in
    let long : length new ≡ end - from = c.apply_members_to_part.ensures.long ∙ middle_long from end part (omega (arith, last)) in
    ⊎_elim
    (λ (before : offset + k < page * PAGE_BYTES). mid_below from (end - from) part new (omega (arith, first, begins)) long k
    (omega (arith, first, before)))
    (λ (behind : page * PAGE_BYTES + PAGE_BYTES ≤ offset + k). mid_above from (end - from) part c.apply_members_to_part.new.part
    (omega (arith, first, begins)) long k (omega (arith, first, last, begins, ends, behind)))
    apart
