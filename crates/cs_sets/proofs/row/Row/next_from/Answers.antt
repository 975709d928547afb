use Rattle.std.proofs.Common.{rules, arith, ◌<◌, ◌/◌, ◌^◌, get_or}
use Rattle.cs_sets.proofs.Scanning.{word_empty, word_next, word_past}
use Rattle.cs_sets.proofs.row.Row.next_from.Goals as goal

pub returns-then-place-end : goal.returns-then-place-end
returns-then-place-end c =
    let bound : get_or c.args.self.now.words (c.loop-at.at / 64) 0 < 2 ^ 64 = search rules in
    word_next c.args.self.now c.args.first c.loop-at.at c.loop-at.invariant.from bound (search rules) (search rules)
    c.loop-at.invariant.none
    c.args.end c.if-place-end.true

pub returns-then-word-ne0 : goal.returns-then-word-ne0
returns-then-word-ne0 c =
    let bound : get_or c.args.self.now.words (c.loop-at.at / 64) 0 < 2 ^ 64 = search rules in
    word_past c.args.self.now c.args.first c.loop-at.at c.loop-at.invariant.from bound (search rules) (search rules)
    c.loop-at.invariant.none
    c.args.end c.if-place-end.false

pub loop-at-preserved : goal.loop-at-preserved
loop-at-preserved c = record {
  from = (let h = c.loop-at.invariant.from in omega (arith, h));
  none = word_empty c.args.self.now c.args.first c.loop-at.at (search rules) c.loop-at.invariant.none;
}
