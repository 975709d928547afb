use Rattle.std.proofs.Common.{◌≡◌, ◌∙◌, refl, sym, ap, arith, length}
use Rattle.indexmap.specs.Layout.{set_value_at, length-set_value_at}
use Rattle.cs_registry.specs.Registries.{Registry}
use Rattle.cs_registry.specs.Runs.{held_at, with_held}
use Rattle.cs_registry.specs.Keys.{Key}
use Rattle.std.specs.Option.{option_map}
use Rattle.cs_registry.specs.declared.found.Found.{Found}
use Rattle.cs_registry.proofs.Changing.{changed}
use Rattle.cs_registry.proofs.Keeping.{runs_kept}
use Rattle.cs_registry.proofs.states.States.held_at_mut.Goals as goal

pub pair_mut-run-requires : goal.pair_mut-run-requires
pair_mut-run-requires g c =
    let H : Type 0 = g.row.H.Denot in
    let count = ap (λ (r : Registry H). length r.runs) c.self.view_is in
    omega (arith, c.requires, count)

pub invariant_of-self-lent : goal.invariant_of-self-lent
invariant_of-self-lent g c w = (
  runs_kept c.self.inside.runs.entries _ (length-set_value_at c.self.inside.runs.entries c.args.place _) c.self.invariant.0,
  c.self.invariant.1,
)

pub returns : goal.returns
returns g c =
    let H : Type 0 = g.row.H.Denot in
    let v = c.self.view_is in
    let xs = c.self.inside.runs.entries in
    let run : Found H = c.pair_mut-run.result.1.now in
    let there = c.pair_mut-run.ensures.value in
    let moved : (w : H) → set_value_at xs c.args.place (record run { held = w }) ≡ with_held c.args.self.now.runs c.args.place w =
    λ w. changed (λ (f : Found H). record f {
      held = w;
    }) xs c.args.place _ run there ∙ ap (λ (r : Registry H). with_held r.runs c.args.place w) v in (
      (refl, λ w i. record { scene = (v i).scene; users = (v i).users; published = (v i).published; runs = moved w i }),
      record {
        lends = tt;
        value = ap (λ (r : Registry H). held_at r.runs c.args.place) (sym v) ∙ ap (option_map (λ (e : Key × Found H). e.1.held)) there;
      },
    )
