use Rattle.std.proofs.Common.{arith, length, sym, ◌∙◌}
use Rattle.std.specs.BTreeMap.{get}
use Rattle.cs_sets.specs.Drawing.{IsCount, row_cmp}
use Rattle.cs_sets.specs.Rows.{needed_in}
use Rattle.cs_sets.proofs.Drawing.{both_counted, count_known, known_count, one_left}
use Rattle.cs_sets.proofs.Tables.{cleared_out}
use Rattle.cs_sets.proofs.draw.+count_from.Goals as goal

pub returns-in_default-clause-count : goal.returns-in_default-clause-count
returns-in_default-clause-count t c =
    one_left (needed_in c.args.needed.now) c.requires.chained (length c.args.needed.now) c.args.most c.requires.some c.args.left
    c.args.first
    c.requires.none c.in_default.ensures

pub returns-in-Some-get-clause-count : goal.returns-in-Some-get-clause-count
returns-in-Some-get-clause-count t c =
    known_count (needed_in c.args.needed.now) (length c.args.needed.now) c.args.most (get row_cmp c.args.known.now) c.args.left
    c.in-Some-get.count.now c.requires.known (sym c.in-Some-get.ensures.value)

pub returns-clause-known : goal.returns-clause-known
returns-clause-known t c =
    let next = c.in-Some.ensures in
    count_known (needed_in c.args.needed.now) (length c.args.needed.now) c.args.most (get row_cmp c.count_from-2.new.known)
    (get row_cmp c.insert.new.self) c.args.left c.min-count.result c.in_ok-more.ensures.known
    (both_counted (needed_in c.args.needed.now) c.requires.chained (length c.args.needed.now) c.args.most c.requires.some c.args.left
    c.args.first
    c.in-Some.place c.requires.none next c.clear.new.self
    (cleared_out c.args.needed.now c.args.left c.remove.new.self c.clear.new.self c.in-Some.place _ next.before_end c.remove.ensures
    c.clear.ensures)
    c.clear-2.new.self c.clear-2.ensures c.in_ok-fewer.fewer c.in_ok-more.more c.min-count.result c.in_ok-fewer.ensures.count
    c.in_ok-more.ensures.count (omega arith))
    c.in_ok-insert.ensures.updates.0

pub returns-clause-count : goal.returns-clause-count
returns-clause-count t c =
    let next = c.in-Some.ensures in
    both_counted (needed_in c.args.needed.now) c.requires.chained (length c.args.needed.now) c.args.most c.requires.some c.args.left
    c.args.first
    c.in-Some.place c.requires.none next c.clear.new.self
    (cleared_out c.args.needed.now c.args.left c.remove.new.self c.clear.new.self c.in-Some.place _ next.before_end c.remove.ensures
    c.clear.ensures)
    c.clear-2.new.self c.clear-2.ensures c.in_ok-fewer.fewer c.in_ok-more.more c.min-count.result c.in_ok-fewer.ensures.count
    c.in_ok-more.ensures.count (omega arith)
