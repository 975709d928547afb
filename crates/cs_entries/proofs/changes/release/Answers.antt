use Rattle.std.proofs.Common.{◌<◌, ap, sym, ◌∙◌, None, get_or, length, arith}
use Rattle.std.proofs.lemmas.Option.{slice_get-get_or}
use Rattle.std.specs.HashMap.{get_by_text}
use Rattle.std.specs.Prelude.{option_and_then}
use Rattle.cs_entries.proofs.Changed.{changed, updated}
use Rattle.cs_entries.proofs.changes.release.Goals as goal

pub returns-clause-before : goal.returns-clause-before
returns-clause-before c =
    let low : c.args.directory < length c.args.directories.now = omega (arith, c.if-directories-directory.false) in
    let name = c.args.name.now in
    let there = slice_get-get_or c.args.directories.now c.args.directory c.index-directories-directory.result low in
    c.remove.ensures.value ∙ ap (option_and_then (λ m. get_by_text m name)) (sym there)

pub returns-clause-state : goal.returns-clause-state
returns-clause-state c =
    let low : c.args.directory < length c.args.directories.now = omega (arith, c.if-directories-directory.false) in
    let old = get_or c.args.directories.now c.args.directory c.index-directories-directory.result in
    let there = slice_get-get_or c.args.directories.now c.args.directory c.index-directories-directory.result low in
    changed c.args.directories.now c.args.directory old c.remove.new.self low there c.args.name.now None
    (updated old c.remove.new.self c.args.name.now None c.remove.ensures.updates)
