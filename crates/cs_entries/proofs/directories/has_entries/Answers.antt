use Rattle.std.proofs.Common.{ap, sym, refl, ◌∙◌, Some}
use Rattle.std.proofs.lemmas.Option.{slice_get-get_or}
use Rattle.std.specs.Prelude.{option_and_then, slice_get}
use Rattle.std.specs.HashMap.{get_by_text}
use Rattle.cs_entries.specs.Paths.{entry_in}
use Rattle.cs_entries.proofs.Nothing.{first_in, not_false, not_true, nothing_in}
use Rattle.cs_entries.proofs.directories.has_entries.Goals as goal

pub returns-in-Some-clause-none : goal.returns-in-Some-clause-none
returns-in-Some-clause-none c = λ h e inside.
    let names = c.in-Some.names.now in
    let there = c.in-Some.ensures.lookup in
    let at = slice_get-get_or c.args.directories.now c.args.directory names there.3.0 ∙ ap (λ m. Some m) (sym (there.3.1 names)) in
    let none = nothing_in names (c.is_empty.ensures.0 (not_false c.is_empty.result h)) e.name in
    ap (λ d. option_and_then (λ m. get_by_text m e.name) (slice_get c.args.directories.now d)) inside
    ∙ ap (option_and_then (λ m. get_by_text m e.name)) at
    ∙ none

pub returns-in-Some-clause-some : goal.returns-in-Some-clause-some
returns-in-Some-clause-some c = λ h.
    let names = c.in-Some.names.now in
    let there = c.in-Some.ensures.lookup in
    let at = slice_get-get_or c.args.directories.now c.args.directory names there.3.0 ∙ ap (λ m. Some m) (sym (there.3.1 names)) in
    let first = first_in names (λ none. not_true c.is_empty.result h (c.is_empty.ensures.1 none)) in (
      entry_in c.args.directory first.0,
      first.1,
      refl,
      ap (option_and_then (λ m. get_by_text m first.0)) at ∙ first.2,
    )
