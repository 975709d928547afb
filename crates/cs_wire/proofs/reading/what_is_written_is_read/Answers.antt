use Rattle.cs_wire.specs.Messages.{requests, replies, t_view, r_view}
use Rattle.cs_wire.proofs.Messages.{read_back, requests_lawful, replies_lawful}
use Rattle.cs_wire.proofs.reading.what_is_written_is_read.Goals as goal

pub returns-clause-requests : goal.returns-clause-requests
returns-clause-requests c = read_back requests requests_lawful t_view

pub returns-clause-replies : goal.returns-clause-replies
returns-clause-replies c = read_back replies replies_lawful r_view
