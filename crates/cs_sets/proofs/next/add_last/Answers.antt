use Rattle.std.proofs.Common.{arith, ◌-◌, sym, ◌∙◌, [], length}
use Rattle.std.proofs.lemmas.Bool.{false≢true}
use Rattle.cs_sets.specs.Bits.{has_place}
use Rattle.cs_sets.specs.Rows.{bit_in}
use Rattle.cs_sets.proofs.Adding.{cut_same, none_more, lacking_bound, adds, added}
use Rattle.cs_sets.proofs.next.add_last.Goals as goal

pub returns-then-is_within : goal.returns-then-is_within
returns-then-is_within c =
    let rows = c.args.rows.now in
    let place = c.loop-place.place in
    let old = has_place c.args.members.now in
    let now = has_place c.loop-place.members in
    let inv = c.loop-place.invariant in
    let high = inv.low in
    let t = c.loop-place-test.true in
    let out = sym c.has_place.ensures ∙ c.if-has_place.false in (
      place - 1,
      (
        adds rows old now place t (omega (arith, t, high)) (record { words = [] }) c.requires.backward inv.left (length rows) high inv.none
            out
            (c.is_within.ensures.0 c.if-is_within.true),
        added rows old now place t (omega (arith, t, high)) (record { words = [] }) c.requires.backward inv.left (has_place c.set.new.self)
            out c.set.ensures,
      ),
    )

pub loop-place-preserved : goal.loop-place-preserved
loop-place-preserved c =
    let rows = c.args.rows.now in
    let place = c.loop-place.place in
    let old = has_place c.args.members.now in
    let now = has_place c.loop-place.members in
    let inv = c.loop-place.invariant in
    let high = inv.low in
    let t = c.loop-place-test.true in
    let out = sym c.has_place.ensures ∙ c.if-has_place.false in
    record {
      left = cut_same old now place t inv.left out;
      low = omega (arith, high);
      none = none_more (bit_in rows) old place (length rows) inv.none
          (lacking_bound rows old now place t (omega (arith, t, high)) (record { words = [] }) c.requires.backward inv.left
          (λ h. false≢true (sym c.if-is_within.false ∙ c.is_within.ensures.1 h)));
    }
