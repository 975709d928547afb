use Rattle.std.proofs.Common.{◌∙◌, sym, ap}
use Rattle.std.specs.Option.{option_copied}
use Rattle.std.specs.Prelude.{Vec}
use Rattle.std.specs.declared.alloc.Global.{Global}
use Rattle.cs_journal.specs.Runs.{PassOf}
use Rattle.cs_connection.proofs.Keeping.{given_in, of_shown}
use Rattle.cs_connection.proofs.given.GivenPasses.of.Goals as goal

pub returns-in-Some : goal.returns-in-Some
returns-in-Some c =
    let items = λ (v : Vec PassOf Global). v.items in
    rw (← c.self.view_is)
    (c.as_slice.ensures.value ∙ sym
    (of_shown items c.self.inside.runs.entries c.args.key.now ∙ ap (given_in items)
    (sym c.get.ensures.value ∙ ap option_copied c.in-Some.is)))

pub returns-in-None : goal.returns-in-None
returns-in-None c =
    let items = λ (v : Vec PassOf Global). v.items in
    rw (← c.self.view_is)
    (sym (of_shown items c.self.inside.runs.entries c.args.key.now ∙ ap (given_in items)
    (sym c.get.ensures.value ∙ ap option_copied c.in-None.is)))
