use Rattle.std.proofs.Common.{◌∙◌, ap}
use Rattle.cs_fids.specs.Opens.{is_among}
use Rattle.cs_fids.proofs.Numbers.{among_put, descending_put}
use Rattle.cs_fids.proofs.opens.add_open_fid.Goals as goal

pub returns-clause-among : goal.returns-clause-among
returns-clause-among c = λ n.
    ap (is_among n) c.in-Ok.ensures.items ∙ among_put n c.args.fid c.index_among_open-index.result c.args.opens.now.items

pub returns-clause-descending : goal.returns-clause-descending
returns-clause-descending c =
    let greater = rw c.as_slice.ensures.value at c.index_among_open-index.ensures.greater in
    let rest = rw c.as_slice.ensures.value at c.index_among_open-index.ensures.rest in
    let within = rw c.as_slice.ensures.value at c.index_among_open-index.ensures.within in
    rw c.in-Ok.ensures.items
    (descending_put c.args.opens.now.items c.requires.descending c.args.fid c.index_among_open-index.result greater rest within
    c.requires.new)
