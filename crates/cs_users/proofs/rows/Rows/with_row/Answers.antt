use Rattle.std.proofs.Common.{◌≡◌, false, length, arith}
use Rattle.cs_users.specs.Members.{is_known}
use Rattle.cs_users.proofs.Places.{IsIndexed-inserted}
use Rattle.cs_users.proofs.rows.Rows.with_row.Goals as goal

pub invariant_of-result : goal.invariant_of-result
invariant_of-result c =
    let key : c.in_ok-name.name.items ≡ c.args.row.name = cc (c.in_ok-name.ensures.items, c.name.ensures.value) in
    let last : c.len.result ≡ length c.self.inside.rows.items = omega (arith, c.len.ensures) in
    let fresh : is_known c.self.inside.rows.items c.args.row.name ≡ false = rw c.self.view_is c.requires in
    rw c.in_ok-push.ensures.items
    (IsIndexed-inserted c.self.inside.rows.items c.args.row c.in_ok-name.name.items c.len.result c.self.inside.places c.insert.new.self
    c.self.invariant key c.name.ensures.legal fresh last c.in_ok-insert.ensures.updates)
