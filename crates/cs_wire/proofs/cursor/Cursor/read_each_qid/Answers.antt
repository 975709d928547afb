use Rattle.std.proofs.Common.{◌≡◌, ◌+◌, ◌++◌, ◌∷◌, [], ℕ, map, ap, ◌∙◌}
use Rattle.std.proofs.lemmas.Result.{err_from_is_err_and}
use Rattle.std.proofs.lemmas.List.{map_push}
use Rattle.cs_wire.specs.Few.{items_of}
use Rattle.cs_wire.specs.Messages.{qid_of, qid_shape}
use Rattle.cs_wire.specs.Reading.{field_at, times_at}
use Rattle.cs_wire.proofs.Loop.{goes_on, ends, is_done}
use Rattle.cs_wire.proofs.cursor.Cursor.read_each_qid.Goals as goal

pub returns-in_err-qid : goal.returns-in_err-qid
returns-in_err-qid c =
    let p = err_from_is_err_and c.from_residual.result c.from_residual.ensures.1 in
    rw (p.1, p.2)
    (ends (field_at qid_shape) c.in_err-qid.field-0.0 (map qid_of (items_of c.loop.qids)) c.args.count c.loop.counter
    c.loop.self.rest.now (times_at (field_at qid_shape) c.args.count c.args.self.now.rest.now) c.loop-test.true c.in_err-qid.ensures
    c.loop.invariant.read)

pub loop-preserved : goal.loop-preserved
loop-preserved c =
    let e : map qid_of (items_of c.push.new.self) ≡ map qid_of (items_of c.loop.qids) ++ (qid_of c.in_ok-qid.qid) ∷ [] =
    ap (map qid_of) c.push.ensures.items ∙ map_push qid_of (items_of c.loop.qids) c.in_ok-qid.qid in
    record {
      read = rw e
          (goes_on (field_at qid_shape) (map qid_of (items_of c.loop.qids)) c.args.count c.loop.counter c.loop.self.rest.now
          (qid_of c.in_ok-qid.qid) c.read_qid.new.self.rest.now (times_at (field_at qid_shape) c.args.count c.args.self.now.rest.now)
          c.loop-test.true c.in_ok-qid.ensures c.loop.invariant.read);
      so_many = c.push.ensures.count ∙ ap (λ (n : ℕ). n + 1) c.loop.invariant.so_many;
    }

pub returns : goal.returns
returns c =
    is_done (field_at qid_shape) (map qid_of (items_of c.loop.qids)) c.args.count c.loop.counter c.loop.self.rest.now
    (times_at (field_at qid_shape) c.args.count c.args.self.now.rest.now) c.loop-test.false c.loop.invariant.read
