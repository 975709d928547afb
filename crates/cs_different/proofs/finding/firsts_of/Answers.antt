use Rattle.std.proofs.Common.{◌≡◌, ◌<◌, ◌+◌, inr, refl, sym, ap, ◌∙◌, arith, get_or, length, List, ℕ, [], map, subst}
use Rattle.std.proofs.lemmas.Bool.{false≢true}
use Rattle.std.proofs.lemmas.List.{get_or-map, get_or_read, length-map, take_all}
use Rattle.std.specs.BTreeSet.{contains}
use Rattle.std.specs.List.{list_any}
use Rattle.std.specs.Ordering.{nat_cmp}
use Rattle.cs_apm.specs.declared.tables.Tables.{Tables}
use Rattle.cs_sets.specs.declared.row.Row.{Row}
use Rattle.cs_sets.specs.Different.{add_first, firsts}
use Rattle.cs_sets.specs.Places.{places_of}
use Rattle.cs_different.specs.Sets.{leave_same}
use Rattle.cs_different.specs.Shapes.{AreShared, shape_left}
use Rattle.cs_different.proofs.Kept.{firsts_next, more_found}
use Rattle.cs_different.proofs.Shaped.{shape_apart}
use Rattle.cs_different.proofs.Shaping.{none_before}
use Rattle.cs_different.proofs.finding.firsts_of.Goals as goal

abbrev shape_in : Tables → Row → ℕ
shape_in tables row = shape_left tables (places_of row)

pub loop-i-preserved : goal.loop-i-preserved
loop-i-preserved c =
    let like = leave_same c.args.scene.now in
    let rows = c.args.sets.now in
    let i = c.loop-i.i in
    let d : Row = record { words = [] } in
    record {
      sets = c.in_ok-add.ensures.sets
          ∙ ap (λ (v : List (List ℕ)). add_first like v (places_of (get_or rows i d))) c.loop-i.invariant.sets
          ∙ sym (firsts_next like rows i d c.loop-i-test.true);
      kept = c.in_ok-add.ensures.kept;
      few = omega (arith, c.if-len-most.false, c.len.ensures);
    }

pub add-requires-clause-alone : goal.add-requires-clause-alone
add-requires-clause-alone c = λ own.
    let s = c.args.scene.now in
    let like = leave_same s in
    let rows = c.args.sets.now in
    let i = c.loop-i.i in
    let d : Row = record { words = [] } in
    let shared = contains nat_cmp c.in_ok-shared.shared in
    let shapes = c.in_ok-shapes.shapes.items in
    let are : AreShared shared shapes = subst (AreShared shared) c.as_slice.ensures.value c.in_ok-shared.ensures in
    let long : length shapes ≡ length rows = ap length c.in_ok-shapes.ensures ∙ length-map rows (shape_in c.args.parts.now.tables) in
    let read : c.index.result.now ≡ get_or shapes i 0 =
    get_or_read shapes i c.index.result.now (omega (arith, long, c.loop-i-test.true)) c.index.ensures 0 in
    ap (list_any (λ y. like y (places_of (get_or rows i d)))) c.loop-i.invariant.sets
    ∙ none_before like places_of rows i d c.loop-i-test.true
    (shape_apart s c.args.parts.now c.requires.parts shared rows shapes c.in_ok-shapes.ensures are c.requires.sets i d
    c.loop-i-test.true (λ t. false≢true (sym own ∙ ap shared read ∙ t)))

pub add-requires-clause-shape : goal.add-requires-clause-shape
add-requires-clause-shape c =
    let shape = shape_in c.args.parts.now.tables in
    let rows = c.args.sets.now in
    let shapes = c.in_ok-shapes.shapes.items in
    let i = c.loop-i.i in
    let d : Row = record { words = [] } in
    let long : length shapes ≡ length rows = ap length c.in_ok-shapes.ensures ∙ length-map rows shape in
    get_or_read shapes i c.index.result.now (omega (arith, long, c.loop-i-test.true)) c.index.ensures 0
    ∙ ap (λ v. get_or v c.loop-i.i 0) c.in_ok-shapes.ensures ∙ get_or-map shape c.args.sets.now c.loop-i.i d 0 c.loop-i-test.true

pub returns-then-len-most-clause-refused : goal.returns-then-len-most-clause-refused
returns-then-len-most-clause-refused c =
    let like = leave_same c.args.scene.now in
    let rows = c.args.sets.now in
    let i = c.loop-i.i in
    let d : Row = record { words = [] } in
    let long : c.args.most < length c.add.new.kept.rows.items = omega (arith, c.if-len-most.true, c.len.ensures) in
    inr (
      refl,
      more_found like rows c.add.new.kept.rows.items (i + 1) c.args.most
          (c.in_ok-add.ensures.sets
          ∙ ap (λ (v : List (List ℕ)). add_first like v (places_of (get_or rows i d))) c.loop-i.invariant.sets
          ∙ sym (firsts_next like rows i d c.loop-i-test.true)) long,
    )

pub returns-clause-firsts : goal.returns-clause-firsts
returns-clause-firsts c =
    c.loop-i.invariant.sets
    ∙ ap (λ v. firsts (leave_same c.args.scene.now) (map places_of v)) (take_all c.loop-i.i c.args.sets.now (omega arith))
