use Rattle.std.proofs.Common.{◌++◌}
use Rattle.cs_wire.specs.Fields.{Four, Eight, Raw, bytes_of_field}
use Rattle.cs_wire.proofs.Putting.{then_put}
use Rattle.cs_wire.proofs.writing.put_request.Goals as goal

pub returns-in-Read-clause-items : goal.returns-in-Read-clause-items
unfolding bytes_of_field
returns-in-Read-clause-items c =
    let count = bytes_of_field Four c.in-Read.count in
    let offset = bytes_of_field Eight c.in-Read.offset in
    rw c.in-Read.is
    (then_put c.args.out.now.items (bytes_of_field Four c.in-Read.fid) (offset ++ count) c.put_u32-in-Read.ensures.items
    (then_put c.put_u32-in-Read.new.out.items offset count c.put_u64.ensures.items c.put_u32-in-Read-2.ensures.items))

pub returns-in-Write-clause-items : goal.returns-in-Write-clause-items
unfolding bytes_of_field
returns-in-Write-clause-items c =
    let fid = bytes_of_field Four c.in-Write.fid in
    let offset = bytes_of_field Eight c.in-Write.offset in
    let bytes = bytes_of_field Raw c.in-Write.data.now in
    rw c.in-Write.is
    (then_put c.args.out.now.items fid (offset ++ bytes) c.put_u32-in-Write.ensures.items
    (then_put c.put_u32-in-Write.new.out.items offset bytes c.put_u64-in-Write.ensures.items c.put_data.ensures.items))
