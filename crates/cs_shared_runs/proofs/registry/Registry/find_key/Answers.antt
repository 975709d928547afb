use Rattle.std.proofs.Common.{◌∙◌, Some, refl, sym, ap}
use Rattle.std.specs.Prelude.{Ok}
use Rattle.cs_shared_runs.proofs.Keyed.{found_key}
use Rattle.cs_shared_runs.proofs.Scenes.{found_of_server}
use Rattle.cs_shared_runs.proofs.registry.Registry.find_key.Goals as goal
use Rattle.cs_shared_runs.proofs.registry.Registry.find_key.Goals.{in-Ok, in-Err}

pub invariant_of-self-2 : goal.invariant_of-self-2
invariant_of-self-2 g c =
    found_of_server g.S.ServerBrand.is_scene c.self.inside.states c.find_key.new.self c.self.invariant c.args.key c.in_ok-place.place
    c.in_ok-place.ensures.finds

pub returns-clause-finds : goal.returns-clause-finds
returns-clause-finds g c =
    rw (← c.self.view_is) (record {
      place = Ok c.in_ok-place.place;
      found = c.in_ok-place.ensures.finds;
      handle = elim c.match-try_clone.branch [
        | in-Ok w ↦ rw w.result-is (c.held_at.ensures ∙ ap Some (sym w.in-Ok.ensures))
        | in-Err w ↦ rw w.result-is refl
      ];
    })

pub returns-clause-key : goal.returns-clause-key
returns-clause-key g c =
    let left =
    found_of_server g.S.ServerBrand.is_scene c.self.inside.states c.find_key.new.self c.self.invariant c.args.key c.in_ok-place.place
    c.in_ok-place.ensures.finds in
    elim c.match-try_clone.branch [
      | in-Ok w ↦ rw w.result-is
          (w.in-Ok.ensures ∙ found_key c.find_key.new.self.runs c.in_ok-place.place left.keyed c.args.key c.held_at.result.now
          c.in_ok-place.ensures.found.here c.held_at.ensures)
      | in-Err w ↦ rw w.result-is tt
    ]
