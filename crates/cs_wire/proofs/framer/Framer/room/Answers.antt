use Rattle.std.proofs.Common.{List, ℕ, ◌-◌, take, drop, refl, arith, ◌∙◌, ap}
use Rattle.std.proofs.lemmas.List.{take_rest}
use Rattle.cs_wire.proofs.Holding.{held-written}
use Rattle.cs_wire.proofs.framer.Framer.room.Goals as goal

pub returns : goal.returns
returns c =
    let f = c.self.inside in
    rw (← c.self.view_is) (
      (
        refl,
        λ (w : List ℕ). held-written f.buffer.items f.place f.filled f.buffer.len w
            (omega (arith, c.self.invariant.1, f.buffer.ok.0)) f.buffer.ok.0,
      ),
      record {
        writes_back = tt;
        value = c.slice_mut.ensures.value ∙ ap (λ (n : ℕ). take (n - f.filled) (drop f.filled f.buffer.items)) f.buffer.ok.0 ∙ take_rest
            f.buffer.items f.filled;
      },
    )
