use Rattle.std.proofs.Common.{arith, length, refl, sym, ap, ◌∙◌, ◌-◌, ◌<◌, ◌≡◌}
use Rattle.std.proofs.lemmas.Bool.{false≢true}
use Rattle.std.proofs.lemmas.Bool.Decides.{Decides-eqb}
use Rattle.std.proofs.lemmas.List.{get_or_read, length-map}
use Rattle.std.proofs.lemmas.Slice.Eq.{slice_eq-Decides}
use Rattle.cs_sets.specs.declared.row.Row.{Row}
use Rattle.cs_sets.specs.Bits.{has_place}
use Rattle.cs_sets.specs.Crowding.{left_of}
use Rattle.cs_sets.specs.Laws.Futures.{merged_into}
use Rattle.cs_sets.proofs.Crowding.{last_left, rises_pushed, rises_same}
use Rattle.cs_sets.proofs.count.add.Goals.{else-len-gt0-via-then-len-gt0+else-eq, else-len-gt0-via-else-len-gt0}
use Rattle.cs_sets.proofs.count.add.Goals as goal

pub returns-then-eq-clause-weight : goal.returns-then-eq-clause-weight
returns-then-eq-clause-weight c =
    let futures = c.args.futures.now.items in
    let at = c.len-len.result - 1 in
    let low : at < length futures = omega (arith, c.args.futures.now.ok) in
    let words : c.index.result.now.left.words ≡ c.args.future.now.left.words =
    (slice_eq-Decides Decides-eqb c.index.result.now.left.words c.args.future.now.left.words c.eq.result c.eq.ensures).0 c.if-eq.true in
    let same : c.index-last.result.now ≡ c.index.result.now =
    get_or_read futures at c.index-last.result.now low c.index-last.ensures c.index.result.now ∙ sym c.index.ensures in
    let rows : c.index-last.result.now.left ≡ c.args.future.now.left =
    ap (λ f. f.left) same ∙ ap (λ w. (let r : Row = record { words = w } in r)) words in
    λ needs m k.
    merged_into needs m k c.args.most futures at c.index-last.result.now c.args.future.now
    (record { left = c.index-last.result.now.left; sets = c.min-sets.result }) c.index-last.result.now low c.index-last.ensures
    (λ j. ap (λ r. has_place r j) rows) (λ j. refl) (omega arith)

pub returns-then-eq-clause-rises : goal.returns-then-eq-clause-rises
returns-then-eq-clause-rises c =
    let futures = c.args.futures.now.items in
    let at = c.len-len.result - 1 in
    let low : at < length futures = omega (arith, c.args.futures.now.ok) in
    let end : at ≡ length futures - 1 = omega (arith, c.args.futures.now.ok) in
    let words : c.index.result.now.left.words ≡ c.args.future.now.left.words =
    (slice_eq-Decides Decides-eqb c.index.result.now.left.words c.args.future.now.left.words c.eq.result c.eq.ensures).0 c.if-eq.true in
    let same : c.index-last.result.now ≡ c.index.result.now =
    get_or_read futures at c.index-last.result.now low c.index-last.ensures c.index.result.now ∙ sym c.index.ensures in
    let rows : c.index-last.result.now.left ≡ c.args.future.now.left =
    ap (λ f. f.left) same ∙ ap (λ w. (let r : Row = record { words = w } in r)) words in
    λ last so_far not_less.
    rises_same futures at (record { left = c.index-last.result.now.left; sets = c.min-sets.result }) c.args.future.now
    c.index-last.result.now last so_far
    end low (ap (λ f. f.left) c.index-last.ensures) rows

pub returns-clause-rises : goal.returns-clause-rises
returns-clause-rises c =
    let futures = c.args.futures.now.items in
    let future = c.args.future.now in
    λ last so_far not_less.
    elim c.else-len-gt0.branch [
      | else-len-gt0-via-then-len-gt0+else-eq w ↦ (
          let at = c.len-len.result - 1 in
          let end : at ≡ length futures - 1 = omega (arith, c.args.futures.now.ok) in
          let is = last_left futures at last w.index.result.now so_far end ∙ ap (λ f. f.left) (sym w.index.ensures) in
          rises_pushed futures c.push.new.self.items future last so_far not_less
          (λ e. false≢true (sym w.if-eq.false
          ∙ (slice_eq-Decides Decides-eqb w.index.result.now.left.words future.left.words w.eq.result w.eq.ensures).1
          (ap (λ r. r.words) (sym is) ∙ e)))
          c.in_ok-push.ensures.items)
      | else-len-gt0-via-else-len-gt0 w ↦ (
          let none : length futures ≡ 0 = omega (arith, c.args.futures.now.ok, w.if-len-gt0.false) in
          absurd (let s = so_far.some in omega (arith, s, none, length-map futures left_of)))
    ]
