use Rattle.std.proofs.Common.{Some, length, sym, ap, ◌∙◌}
use Rattle.std.proofs.lemmas.List.{length-map}
use Rattle.cs_entries.specs.Paths.{entry_in}
use Rattle.cs_trace.specs.Homes.{home_of, homes_in}
use Rattle.cs_trace.specs.Operations.{number_for}
use Rattle.cs_trace.proofs.Homed.{number_early, number_next, number_other, number_there}
use Rattle.cs_trace.proofs.homes.Homes.number_for.Goals as goal

pub returns-in-Some-Directory : goal.returns-in-Some-Directory
returns-in-Some-Directory c =
    let homes = homes_in c.self.inside.list.items in
    let e = entry_in c.args.directory c.args.name.now in
    number_there c.self.inside.first homes c.self.invariant e c.in-Some-Directory.number
    (sym c.get.ensures ∙ c.in-Some-Directory.is ∙ ap Some c.in-Some-Directory.field-0-is)
    ∙ number_early c.args.version homes e (sym c.is_fourth.ensures ∙ c.if-is_fourth.false)
    ∙ ap (λ hs. number_for c.args.version hs e) c.self.view_is

pub returns-in-Some-File : goal.returns-in-Some-File
returns-in-Some-File c =
    let homes = homes_in c.self.inside.list.items in
    let e = entry_in c.args.directory c.args.name.now in
    c.len-next.ensures ∙ c.self.inside.list.ok.0 ∙ sym (length-map c.self.inside.list.items home_of)
    ∙ number_other c.self.inside.first homes c.self.invariant e c.in-Some-File.field-0 (sym c.get.ensures ∙ c.in-Some-File.is)
    (λ d same. let file = c.in-Some-File.field-0-is in cc)
    ∙ number_early c.args.version homes e (sym c.is_fourth.ensures ∙ c.if-is_fourth.false)
    ∙ ap (λ hs. number_for c.args.version hs e) c.self.view_is

pub returns-in-None : goal.returns-in-None
returns-in-None c =
    let homes = homes_in c.self.inside.list.items in
    let e = entry_in c.args.directory c.args.name.now in
    c.len-next.ensures ∙ c.self.inside.list.ok.0 ∙ sym (length-map c.self.inside.list.items home_of)
    ∙ number_next c.self.inside.first homes c.self.invariant e (sym c.get.ensures ∙ c.in-None.is)
    ∙ number_early c.args.version homes e (sym c.is_fourth.ensures ∙ c.if-is_fourth.false)
    ∙ ap (λ hs. number_for c.args.version hs e) c.self.view_is
