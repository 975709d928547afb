use Rattle.std.proofs.Common.{◌∙◌, ◌-◌, ap, length, slice_get}
use Rattle.cs_fids.specs.Tables.{map_of}
use Rattle.cs_fids.proofs.Leasts.{is_least, is_open_there}
use Rattle.cs_fids.proofs.table.FidTable.least_open.Goals as goal

pub returns-clause-least : goal.returns-clause-least
returns-clause-least c =
    let last = c.copied.ensures ∙ c.last.ensures.value ∙ ap (λ xs. slice_get xs (length xs - 1)) c.deref.ensures.value in
    rw (← c.self.view_is)
    (last ∙ is_least (map_of c.self.inside.fids.entries) c.self.inside.opens.items c.self.invariant.1.descending c.self.invariant.1.among)

pub returns-clause-found : goal.returns-clause-found
returns-clause-found c =
    let last = c.copied.ensures ∙ c.last.ensures.value ∙ ap (λ xs. slice_get xs (length xs - 1)) c.deref.ensures.value in
    rw (last, ← c.self.view_is)
    (is_open_there (map_of c.self.inside.fids.entries) c.self.inside.opens.items c.self.invariant.1.descending c.self.invariant.1.among)
