use Rattle.std.proofs.Common.{◌≡◌, ◌-◌, ◌++◌, ap, arith, length, rules, ◌∙◌}
use Rattle.std.proofs.lemmas.List.FromFn.{length-map-range_with_len}
use Rattle.std.specs.List.{flat_map, range_with_len}
use Rattle.cs_sets.specs.Orders.{needs_in}
use Rattle.cs_picks.specs.Families.{prefix_sets, sets_without}
use Rattle.cs_picks.specs.Losses.{losses_of, lost_at}
use Rattle.cs_every.specs.Texts.{picks_text}
use Rattle.cs_picks.proofs.Written.{prefixes_more, same_prefix, written_more}
use Rattle.cs_picks.proofs.files.write_files.Goals as goal

pub write_prefix-requires-clause-fewer : goal.write_prefix-requires-clause-fewer
write_prefix-requires-clause-fewer g c =
    let last : c.saturating_sub.result ≡ c.loop-end.end - 1 = search rules in
    let long = ap length (c.deref.ensures.value ∙ c.in_ok-shorter.ensures) in
    let count =
    length-map-range_with_len (lost_at c.ops-ops.result.now c.syncs-syncs.result.now (c.saturating_sub.result - 1)) 0
    c.saturating_sub.result in
    let ops = ap length c.ops-ops.ensures.value in
    omega (arith, last, long, count, ops, c.requires, c.loop-end-test.true)

pub write_prefix-requires-clause-few : goal.write_prefix-requires-clause-few
write_prefix-requires-clause-few g c =
    let long = ap length (c.deref-in-loop-end.ensures.value ∙ c.in_ok-losses.ensures) in
    let count = length-map-range_with_len (lost_at c.ops-ops.result.now c.syncs-syncs.result.now (c.loop-end.end - 1)) 0 c.loop-end.end in
    let ops = ap length c.ops-ops.ensures.value in
    omega (arith, long, count, ops, c.requires, c.loop-end-test.true)

pub loop-end-preserved : goal.loop-end-preserved
loop-end-preserved g c =
    let m = c.args.micros.now in
    let order = c.args.order.now in
    let n = c.loop-end.end in
    let before = picks_text (flat_map (prefix_sets m order) (range_with_len 0 n)) in
    let shorter = c.deref.result.now in
    let losses = c.deref-in-loop-end.result.now in
    let files = c.deref-in-loop-end-2.result.now in
    let last : c.saturating_sub.result ≡ n - 1 = search rules in
    let of_shorter = c.deref.ensures.value ∙ c.in_ok-shorter.ensures ∙ ap (losses_of c.ops-ops.result.now c.syncs-syncs.result.now) last in
    let same =
    same_prefix m order n c.ops-ops.result.now c.syncs-syncs.result.now shorter losses files c.ops-ops.ensures.value
    c.syncs-syncs.ensures of_shorter
    (c.deref-in-loop-end.ensures.value ∙ c.in_ok-losses.ensures) (c.deref-in-loop-end-2.ensures.value ∙ c.in_ok-files.ensures) in
    let e = ap (λ v. before ++ picks_text v) same ∙ prefixes_more (prefix_sets m order) n in
    written_more (g.W.Write.contents c.args.out.now) (g.W.Write.contents c.loop-end.out) (g.W.Write.contents c.write_prefix.new.out) before
    (picks_text (flat_map (sets_without (needs_in order) shorter losses) files)) _ c.loop-end.invariant c.in_ok-write_prefix.ensures.sets e
