use Rattle.std.proofs.Common.{rules}
use Rattle.std.proofs.lemmas.List.Sorted.{answers_always}
use Rattle.cs_run.proofs.Ascending.{found, nowhere}
use Rattle.cs_run.proofs.blocks.index_of_open.Goals as goal

pub returns-in-Ok-clause-found : goal.returns-in-Ok-clause-found
returns-in-Ok-clause-found c =
    found c.args.opens.now c.requires c.args.number c.in-Ok.at
    (c.in-Ok.ensures.position (λ o. o.number) (answers_always _ _ _ (λ f a r g called. search rules)))

pub returns-in-Err-clause-missing : goal.returns-in-Err-clause-missing
returns-in-Err-clause-missing c none =
    nowhere c.args.opens.now c.requires c.args.number c.in-Err.field-0
    (c.in-Err.ensures.position (λ o. o.number) (answers_always _ _ _ (λ f a r g called. search rules)))
