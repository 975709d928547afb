use Rattle.std.proofs.Common.{arith}
use Rattle.cs_wire.specs.Messages.{replies, r_view}
use Rattle.cs_wire.specs.Reading.{message_of}
use Rattle.cs_wire.proofs.Messages.{is_found, is_read, gives_so, memory_last, some_last, replies_lawful}
use Rattle.cs_wire.proofs.reading.decode_reply.Goals as goal

pub returns-clause-found : goal.returns-clause-found
returns-clause-found c =
    is_found replies replies_lawful r_view c.args.bytes.now c.read_reply.result (λ i. omega (arith, c.type_inv.bytes i))
    c.read_reply.ensures

pub returns-clause-only : goal.returns-clause-only
returns-clause-only c = is_read replies replies_lawful r_view c.args.bytes.now c.read_reply.result c.read_reply.ensures

pub returns-clause-exact : goal.returns-clause-exact
returns-clause-exact c = gives_so r_view c.read_reply.result (message_of replies c.args.bytes.now) c.read_reply.ensures

pub returns-clause-memory : goal.returns-clause-memory
returns-clause-memory c = memory_last r_view c.read_reply.result (message_of replies c.args.bytes.now) c.read_reply.ensures

pub returns-clause-grows : goal.returns-clause-grows
returns-clause-grows c = some_last r_view c.read_reply.result (message_of replies c.args.bytes.now) c.read_reply.ensures
