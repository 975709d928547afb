use Rattle.std.proofs.Common.{ap, sym, ◌∙◌, Some, get_or}
use Rattle.std.proofs.lemmas.Option.{slice_get-get_or}
use Rattle.std.specs.HashMap.{get_by_text}
use Rattle.std.specs.Prelude.{option_and_then}
use Rattle.std.specs.String.{string_bytes}
use Rattle.cs_entries.proofs.Changed.{changed, updated}
use Rattle.cs_entries.proofs.changes.hold.Goals as goal

pub returns-clause-before : goal.returns-clause-before
returns-clause-before c =
    let name = string_bytes c.args.name in
    let there = slice_get-get_or c.args.directories.now c.args.directory c.index-directories-directory.result c.requires in
    c.in_ok-before.ensures.old ∙ ap (option_and_then (λ m. get_by_text m name)) (sym there)

pub returns-clause-ok : goal.returns-clause-ok
returns-clause-ok c =
    let old = get_or c.args.directories.now c.args.directory c.index-directories-directory.result in
    let there = slice_get-get_or c.args.directories.now c.args.directory c.index-directories-directory.result c.requires in
    changed c.args.directories.now c.args.directory old c.insert.new.self c.requires there (string_bytes c.args.name) (Some c.args.node)
    (updated old c.insert.new.self (string_bytes c.args.name) (Some c.args.node) c.in_ok-before.ensures.updates)
