use Rattle.std.proofs.Common.{◌<◌, ◌∙◌, length, ap, sym, arith}
use Rattle.cs_fids.specs.Opens.{is_among}
use Rattle.cs_fids.proofs.Numbers.{among_taken, stands_there}
use Rattle.cs_fids.proofs.opens.remove_open_fid.Goals as goal

pub remove-requires : goal.remove-requires
remove-requires c =
    let greater = rw c.as_slice.ensures.value at c.index_among_open-index.ensures.greater in
    let rest = rw c.as_slice.ensures.value at c.index_among_open-index.ensures.rest in
    let there =
    stands_there c.args.opens.now.items c.requires.descending c.args.fid c.index_among_open-index.result greater rest c.requires.there in
    let within : c.index_among_open-index.result < length c.args.opens.now.items = there.0 in
    omega (arith, c.as_slice.ensures.len, ap length c.as_slice.ensures.value)

pub returns-clause-among : goal.returns-clause-among
returns-clause-among c = λ n.
    let greater = rw c.as_slice.ensures.value at c.index_among_open-index.ensures.greater in
    let rest = rw c.as_slice.ensures.value at c.index_among_open-index.ensures.rest in
    let there =
    stands_there c.args.opens.now.items c.requires.descending c.args.fid c.index_among_open-index.result greater rest c.requires.there in
    ap (is_among n) c.remove.ensures.items ∙ among_taken c.args.opens.now.items c.requires.descending c.args.fid
    c.index_among_open-index.result there.0 (sym there.1) n
