use Rattle.std.proofs.Common.{◌++◌}
use Rattle.cs_wire.specs.Fields.{Two, Four, Eight, Text, ◌▸◌, bytes_of_field}
use Rattle.cs_wire.specs.Messages.{qid_of, qid_shape, users_in}
use Rattle.cs_wire.proofs.Putting.{then_put}
use Rattle.cs_wire.proofs.writing.put_stat_fields.Goals as goal

pub returns-clause-items : goal.returns-clause-items
unfolding bytes_of_field
returns-clause-items c =
    let s = c.args.stat.now in
    let a = bytes_of_field (Text ▸ Text ▸ Text ▸ Text) (users_in s) in
    let b = bytes_of_field Eight s.length ++ a in
    let d = bytes_of_field Four s.mtime ++ b in
    let e = bytes_of_field Four s.atime ++ d in
    let f = bytes_of_field Four s.mode ++ e in
    let g = bytes_of_field qid_shape (qid_of s.qid) ++ f in
    let h = bytes_of_field Four s.dev ++ g in
    then_put c.args.out.now.items (bytes_of_field Two s.kind) h c.put_u16.ensures.items
    (then_put c.put_u16.new.out.items (bytes_of_field Four s.dev) g c.put_u32.ensures.items
    (then_put c.put_u32.new.out.items (bytes_of_field qid_shape (qid_of s.qid)) f c.put_qid.ensures.items
    (then_put c.put_qid.new.out.items (bytes_of_field Four s.mode) e c.put_u32-2.ensures.items
    (then_put c.put_u32-2.new.out.items (bytes_of_field Four s.atime) d c.put_u32-3.ensures.items
    (then_put c.put_u32-3.new.out.items (bytes_of_field Four s.mtime) b c.put_u32-4.ensures.items
    (then_put c.put_u32-4.new.out.items (bytes_of_field Eight s.length) a c.put_u64.ensures.items
    c.put_stat_texts.ensures.items))))))
