use Rattle.std.proofs.Common.{◌<◌, ℕ, cond, List, Some, sym, ap, ◌∙◌, subst, arith, length}
use Rattle.std.proofs.lemmas.Bool.{ne_eqb}
use Rattle.std.proofs.lemmas.List.{get_or_read}
use Rattle.std.specs.Arc.{arc_value}
use Rattle.cs_paths.specs.Marks.{kept_at}
use Rattle.cs_paths.proofs.Laws.{positions_there}
use Rattle.cs_state.specs.States.{entries_in, number_of_place, places_in, positions_shown}
use Rattle.cs_state.proofs.Sharing.{is_order}
use Rattle.cs_state.proofs.state.State.number_of_directory.Goals as goal

pub index-place-requires : goal.index-place-requires
index-place-requires c =
    let s = c.args.self.now in
    let p = arc_value s.parts in
    let o = c.order.result.now in
    let h = c.requires.made.state in
    let r = is_order p (places_in s) s.moved s.own.items h o c.order.ensures in
    let many = (positions_there p.trace p.micros p.tables h.whole.whole.atlas s.moved).0 in
    let placed = ap length r.placed in
    let known = c.requires.known in
    let long = o.positions.ok.0 in
    omega (arith, many, placed, known, long)

pub number_of_place-requires-clause-there : goal.number_of_place-requires-clause-there
number_of_place-requires-clause-there c =
    let s = c.args.self.now in
    let p = arc_value s.parts in
    let o = c.order.result.now in
    let h = c.requires.made.state in
    let r = is_order p (places_in s) s.moved s.own.items h o c.order.ensures in
    let there = positions_there p.trace p.micros p.tables h.whole.whole.atlas s.moved in
    let many = there.0 in
    let placed = ap length r.placed in
    let known = c.requires.known in
    let read =
    get_or_read o.positions.items c.args.directory c.index-place.result.now (omega (arith, many, placed, known)) c.index-place.ensures 0
    ∙ ap (λ (ps : List ℕ). kept_at ps c.args.directory) r.placed in
    subst (λ n. n < length (entries_in s)) (sym read) (there.1 c.requires.some c.args.directory)

pub returns : goal.returns
returns c =
    let s = c.args.self.now in
    let p = arc_value s.parts in
    let o = c.order.result.now in
    let h = c.requires.made.state in
    let d = c.args.directory in
    let r = is_order p (places_in s) s.moved s.own.items h o c.order.ensures in
    let many = (positions_there p.trace p.micros p.tables h.whole.whole.atlas s.moved).0 in
    let placed = ap length r.placed in
    let known = c.requires.known in
    let read =
    get_or_read o.positions.items d c.index-place.result.now (omega (arith, many, placed, known)) c.index-place.ensures 0
    ∙ ap (λ (ps : List ℕ). kept_at ps d) r.placed in
    c.number_of_place.ensures ∙ ap (number_of_place s) read
    ∙ sym (ap (λ b. cond b (Some 0) (number_of_place s (kept_at (positions_shown s) d))) (ne_eqb d 0 c.if-directory-eq0.false))
