use Rattle.std.proofs.Common.{sym, ap, ◌∙◌, List}
use Rattle.cs_entries.specs.Paths.{entry_in}
use Rattle.cs_entries.specs.declared.entry.Entry.{Entry}
use Rattle.cs_state.specs.Named.{place_of_entry}
use Rattle.cs_state.specs.States.{entries_in}
use Rattle.cs_state.proofs.Naming.{place_found}
use Rattle.cs_state.proofs.state.State.number_of_name.Goals as goal

pub number_of_place-requires-clause-there : goal.number_of_place-requires-clause-there
number_of_place-requires-clause-there c =
    let e : Entry = entry_in c.args.directory c.args.name.now in
    (place_found (entries_in c.args.self.now) e c.in_ok-place.place
    (sym (c.in_ok-place.ensures ∙ ap (λ (es : List Entry). place_of_entry es e) c.entries.ensures))).0
