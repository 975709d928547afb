use Rattle.std.proofs.Common.{◌≡◌, ◌+◌, ◌++◌, ◌∷◌, [], ℕ, List, map, ap, ◌∙◌}
use Rattle.std.specs.Borrow.{Bor}
use Rattle.std.proofs.lemmas.Result.{err_from_is_err_and}
use Rattle.std.proofs.lemmas.List.{map_push}
use Rattle.cs_wire.specs.Few.{items_of}
use Rattle.cs_wire.specs.Fields.{Text}
use Rattle.cs_wire.specs.Messages.{texts_in}
use Rattle.cs_wire.specs.Reading.{field_at, times_at}
use Rattle.cs_wire.proofs.Loop.{goes_on, ends, is_done}
use Rattle.cs_wire.proofs.cursor.Cursor.read_each_name.Goals as goal

pub returns-in_err-name : goal.returns-in_err-name
returns-in_err-name c =
    let p = err_from_is_err_and c.from_residual.result c.from_residual.ensures.1 in
    rw (p.1, p.2)
    (ends (field_at Text) c.in_err-name.field-0.0 (texts_in (items_of c.loop.names)) c.args.count c.loop.counter c.loop.self.rest.now
    (times_at (field_at Text) c.args.count c.args.self.now.rest.now) c.loop-test.true c.in_err-name.ensures c.loop.invariant.read)

pub loop-preserved : goal.loop-preserved
loop-preserved c =
    let e : texts_in (items_of c.push.new.self) ≡ texts_in (items_of c.loop.names) ++ (c.in_ok-name.name.now) ∷ [] =
    ap (map (λ (text : Bor (List ℕ)). text.now)) c.push.ensures.items ∙ map_push (λ (text : Bor (List ℕ)). text.now)
    (items_of c.loop.names) c.in_ok-name.name in
    record {
      read = rw e
          (goes_on (field_at Text) (texts_in (items_of c.loop.names)) c.args.count c.loop.counter c.loop.self.rest.now
          (c.in_ok-name.name.now) c.read_text.new.self.rest.now (times_at (field_at Text) c.args.count c.args.self.now.rest.now)
          c.loop-test.true c.in_ok-name.ensures c.loop.invariant.read);
      so_many = c.push.ensures.count ∙ ap (λ (n : ℕ). n + 1) c.loop.invariant.so_many;
    }

pub returns : goal.returns
returns c =
    is_done (field_at Text) (texts_in (items_of c.loop.names)) c.args.count c.loop.counter c.loop.self.rest.now
    (times_at (field_at Text) c.args.count c.args.self.now.rest.now) c.loop-test.false c.loop.invariant.read
