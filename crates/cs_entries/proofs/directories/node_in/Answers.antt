use Rattle.std.proofs.Common.{ap, sym, ◌∙◌, Some}
use Rattle.std.proofs.lemmas.Option.{slice_get-get_or}
use Rattle.std.specs.Prelude.{option_and_then}
use Rattle.std.specs.HashMap.{get_by_text}
use Rattle.cs_entries.proofs.directories.node_in.Goals as goal

pub returns-in-Some : goal.returns-in-Some
returns-in-Some c =
    let names = c.in-Some.names.now in
    let there = c.in-Some.ensures.lookup in
    let at = slice_get-get_or c.args.directories.now c.args.directory names there.3.0 ∙ ap (λ m. Some m) (sym (there.3.1 names)) in
    c.copied.ensures ∙ c.get-in-Some.ensures.value
    ∙ ap (option_and_then (λ m. get_by_text m c.args.name.now)) (sym at)
