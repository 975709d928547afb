use Rattle.std.proofs.Common.{arith}
use Rattle.cs_wire.specs.Messages.{requests, t_view}
use Rattle.cs_wire.specs.Reading.{message_of}
use Rattle.cs_wire.proofs.Messages.{is_found, is_read, gives_so, memory_last, some_last, requests_lawful}
use Rattle.cs_wire.proofs.reading.decode_request.Goals as goal

pub returns-clause-found : goal.returns-clause-found
returns-clause-found c =
    is_found requests requests_lawful t_view c.args.bytes.now c.read_request.result (λ i. omega (arith, c.type_inv.bytes i))
    c.read_request.ensures

pub returns-clause-only : goal.returns-clause-only
returns-clause-only c = is_read requests requests_lawful t_view c.args.bytes.now c.read_request.result c.read_request.ensures

pub returns-clause-exact : goal.returns-clause-exact
returns-clause-exact c = gives_so t_view c.read_request.result (message_of requests c.args.bytes.now) c.read_request.ensures

pub returns-clause-memory : goal.returns-clause-memory
returns-clause-memory c = memory_last t_view c.read_request.result (message_of requests c.args.bytes.now) c.read_request.ensures

pub returns-clause-grows : goal.returns-clause-grows
returns-clause-grows c = some_last t_view c.read_request.result (message_of requests c.args.bytes.now) c.read_request.ensures
