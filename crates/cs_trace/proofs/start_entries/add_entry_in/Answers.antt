use Rattle.std.proofs.Common.{◌≡◌, Some, Ok, length, refl, sym, ap, ◌∙◌}
use Rattle.std.specs.FinMap.{get}
use Rattle.std.specs.Option.{is_some}
use Rattle.cs_entries.specs.DirEntries.{last_name}
use Rattle.cs_entries.specs.Paths.{at_path, entry_in}
use Rattle.cs_entries.specs.Tables.{held_in}
use Rattle.cs_trace.specs.Kept.{state_of}
use Rattle.cs_trace.specs.Names.{claims_by}
use Rattle.cs_trace.specs.Putting.{is_too_large, node_by}
use Rattle.cs_trace.specs.State.{State}
use Rattle.cs_trace.specs.States.{entry_for, start_at}
use Rattle.cs_trace.specs.declared.fault.TraceFaultKind.TheVariants.{Exists}
use Rattle.cs_trace_lines.specs.Said.{content_of}
use Rattle.cs_trace.proofs.Made.{fails_by}
use Rattle.cs_trace.proofs.StartNext.{nothing_is}
use Rattle.cs_trace.proofs.Starting.{absent, remembered, start_next, start_taken}
use Rattle.cs_trace.proofs.start_entries.add_entry_in.Goals as goal

pub put_entry-requires-clause-absent : goal.put_entry-requires-clause-absent
put_entry-requires-clause-absent c = λ none.
    let s = state_of c.args.state.now in
    let p = c.args.path in
    let d = c.args.above.number in
    let parent = sym c.requires.above in
    let above = ap (at_path (held_in s.system.entries)) parent ∙ c.requires.is_there in
    absent s p d c.requires.some above c.requires.starting (none)

pub returns-then-replaced : goal.returns-then-replaced
returns-then-replaced c =
    let s = state_of c.args.state.now in
    let p = c.args.path in
    let d = c.args.above.number in
    let parent = sym c.requires.above in
    let above = ap (at_path (held_in s.system.entries)) parent ∙ c.requires.is_there in
    let claims = claims_by c.args.rights in
    let content = content_of c.args.content in
    fails_by (start_at s p claims content) Exists
    (start_taken s p d c.requires.some above claims content (sym (c.in_ok-replaced.ensures.replaced) ∙ c.if-replaced.true))

pub remember_directory-requires : goal.remember_directory-requires
remember_directory-requires c =
    let s = state_of c.args.state.now in
    let p = c.args.path in
    let d = c.args.above.number in
    let parent = sym c.requires.above in
    let above = ap (at_path (held_in s.system.entries)) parent ∙ c.requires.is_there in
    let none = nothing_is (get s.system.entries (entry_in d (last_name p)))
    (sym (c.in_ok-replaced.ensures.replaced) ∙ c.if-replaced.false) in
    ap (at_path (held_in c.put_entry.new.state.tree)) (sym parent)
    ∙ remembered s p d c.requires.some above c.in_ok-entry.entry none (state_of c.put_entry.new.state)
    (c.in_ok-replaced.ensures.state c.if-replaced.false)

pub returns : goal.returns
returns c =
    let s = state_of c.args.state.now in
    let p = c.args.path in
    let d = c.args.above.number in
    let parent = sym c.requires.above in
    let above = ap (at_path (held_in s.system.entries)) parent ∙ c.requires.is_there in
    let claims = claims_by c.args.rights in
    let content = content_of c.args.content in
    let none = nothing_is (get s.system.entries (entry_in d (last_name p)))
    (sym (c.in_ok-replaced.ensures.replaced) ∙ c.if-replaced.false) in
    let little = ap (λ n. is_too_large s n content) (sym (c.requires.names)) ∙ sym c.is_too_large.ensures ∙ c.if-is_too_large.false in
    let entry = c.in_ok-entry.ensures ∙ ap (λ n. entry_for (node_by s (entry_in d n) content) claims content) (c.last_name-name.ensures) in
    let put : State = state_of c.put_entry.new.state in
    start_next s p d c.requires.some above claims content c.in_ok-entry.entry put none little entry
    (c.in_ok-replaced.ensures.state c.if-replaced.false)
    ∙ ap (λ t. Ok (record put { system = record put.system { entries = t } })) (sym c.remember_directory.ensures)
