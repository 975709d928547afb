use Rattle.std.proofs.Common.{◌≡◌, ◌<◌, ◌∙◌, length, None, Some, ap, arith, sym}
use Rattle.std.specs.Arc.{arc_value}
use Rattle.std.specs.Option.{option_copied}
use Rattle.cs_names.specs.declared.limits.TheConstants.{RUNS}
use Rattle.cs_registry.specs.Runs.{place_of}
use Rattle.cs_registry.proofs.Telling.{tells}
use Rattle.cs_registry.proofs.Finding.{finds_again, finds_full, finds_new, finds_none, finds_short, is_admitted, published_is, state_is}
use Rattle.cs_registry.proofs.states.States.find_key.Goals as goal
use Rattle.cs_registry.proofs.states.States.find_key.Goals.{in-Ok, in-Err}

pub returns-in_default-clause-finds : goal.returns-in_default-clause-finds
returns-in_default-clause-finds g c =
    let none = sym (ap option_copied c.in_default.is) ∙ (rw (c.deref.ensures.value, c.number.ensures) at c.published_state.ensures) in
    rw (← c.self.view_is) (finds_none g.H.Held.is_fresh _ c.args.key (published_is c.self.inside.states.items c.args.key.number None none))

pub make_run-requires-clause-admitted : goal.make_run-requires-clause-admitted
make_run-requires-clause-admitted g c =
    let there = sym (ap option_copied c.in-Some.is) ∙ (rw (c.deref.ensures.value, c.number.ensures) at c.published_state.ensures) in
    is_admitted c.self.invariant.0 c.args.key.number c.in-Some.state.now there

pub returns-in-Some-get_index_of-clause-finds : goal.returns-in-Some-get_index_of-clause-finds
returns-in-Some-get_index_of-clause-finds g c =
    let there = sym (ap option_copied c.in-Some.is) ∙ (rw (c.deref.ensures.value, c.number.ensures) at c.published_state.ensures) in
    let published = published_is c.self.inside.states.items c.args.key.number (Some c.in-Some.state.now) there in
    rw (← c.self.view_is)
    (finds_again g.H.Held.is_fresh _ c.args.key published c.in-Some-get_index_of.place (sym c.in-Some-get_index_of.ensures.index)
    c.count_find.result c.count_find.new.runs.entries c.count_find.ensures.ok c.count_find.ensures.err)

pub returns-in-None-clause-finds : goal.returns-in-None-clause-finds
returns-in-None-clause-finds g c =
    let there = sym (ap option_copied c.in-Some.is) ∙ (rw (c.deref.ensures.value, c.number.ensures) at c.published_state.ensures) in
    let published = published_is c.self.inside.states.items c.args.key.number (Some c.in-Some.state.now) there in
    rw (← c.self.view_is)
    (finds_full g.H.Held.is_fresh _ c.args.key published (sym c.in-None.ensures.index) (omega (arith, c.len.ensures.len)))

pub returns-after-make_run-clause-finds : goal.returns-after-make_run-clause-finds
returns-after-make_run-clause-finds g c =
    let there = sym (ap option_copied c.in-Some.is) ∙ (rw (c.deref.ensures.value, c.number.ensures) at c.published_state.ensures) in
    let published = published_is c.self.inside.states.items c.args.key.number (Some c.in-Some.state.now) there in
    let none : place_of c.args.key c.self.inside.runs.entries ≡ None = sym c.in-None.ensures.index in
    let few : length c.self.inside.runs.entries < RUNS = omega (arith, c.len.ensures.len) in
    rw (← c.self.view_is) (elim c.match-make_run.branch [
      | in-Ok w ↦ rw w.result-is
          (let made = w.in-Ok.ensures.made in
          finds_new g.H.Held.is_fresh _ c.args.key published none few w.in-Ok.place c.make_run.new.runs.entries made.1.0 made.0 made.1.2
          (arc_value c.in-Some.state.now, state_is c.self.invariant.0 c.args.key.number c.in-Some.state.now there, made.1.1))
      | in-Err w ↦ rw w.result-is
          (finds_short g.H.Held.is_fresh _ c.args.key published none few c.make_run.new.runs.entries w.in-Err.ensures.err)
    ])

pub returns-in-Some-get_index_of-clause-found : goal.returns-in-Some-get_index_of-clause-found
returns-in-Some-get_index_of-clause-found g c = tells (returns-in-Some-get_index_of-clause-finds g c)

pub returns-after-make_run-clause-found : goal.returns-after-make_run-clause-found
returns-after-make_run-clause-found g c = tells (returns-after-make_run-clause-finds g c)
