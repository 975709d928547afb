use Rattle.cs_wire.specs.Messages.{requests, replies}
use Rattle.cs_wire.proofs.Messages.{one_form, requests_lawful, replies_lawful}
use Rattle.cs_wire.proofs.reading.one_spelling.Goals as goal

pub returns-clause-requests : goal.returns-clause-requests
returns-clause-requests c = one_form requests requests_lawful

pub returns-clause-replies : goal.returns-clause-replies
returns-clause-replies c = one_form replies replies_lawful
