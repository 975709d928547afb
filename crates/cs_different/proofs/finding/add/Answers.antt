use Rattle.std.proofs.Common.{◌≡◌, ◌++◌, ◌∷◌, [], ℕ, Bool, List, false, true, ap, map, subst, sym, ◌∙◌}
use Rattle.std.proofs.lemmas.List.Elements.{All-push}
use Rattle.std.specs.BTreeSet.{contains}
use Rattle.std.specs.List.{All, filter}
use Rattle.std.specs.Ordering.{nat_cmp}
use Rattle.cs_sets.specs.Places.{places_of}
use Rattle.cs_different.specs.Sets.{IsLeavable, leave_same}
use Rattle.cs_different.specs.Shapes.{shape_left}
use Rattle.cs_different.proofs.Kept.{map_push}
use Rattle.cs_different.proofs.Shaped.{both_shared}
use Rattle.cs_different.proofs.Shaping.{alone_new, alone_stays, compared_grows, compared_met, compared_new, compared_stays}
use Rattle.cs_different.proofs.finding.add.Goals as goal

pub returns-then-not-contains-clause-sets : goal.returns-then-not-contains-clause-sets
returns-then-not-contains-clause-sets c =
    let s = c.args.scene.now in
    let tables = c.args.parts.now.tables in
    let shared = contains nat_cmp c.args.shared.now in
    let x = places_of c.args.set.now in
    let rows = map places_of c.args.kept.now.rows.items in
    let is_shared : List ℕ → Bool = λ places. shared (shape_left tables places) in
    let agree = both_shared s c.args.parts.now c.requires.parts shared in
    let alone : shared c.args.shape ≡ false = sym c.contains.ensures ∙ c.if-not-contains.true in
    let pushed : map places_of c.push.new.self.items ≡ rows ++ x ∷ [] =
    ap (map places_of) c.in_ok-push.ensures.items ∙ map_push places_of c.args.kept.now.rows.items c.args.set.now in
    pushed ∙ alone_new (IsLeavable s) (leave_same s) is_shared agree rows x (c.requires.alone alone)

pub returns-then-not-contains-clause-kept : goal.returns-then-not-contains-clause-kept
returns-then-not-contains-clause-kept c =
    let s = c.args.scene.now in
    let tables = c.args.parts.now.tables in
    let shared = contains nat_cmp c.args.shared.now in
    let x = places_of c.args.set.now in
    let rows = map places_of c.args.kept.now.rows.items in
    let is_shared : List ℕ → Bool = λ places. shared (shape_left tables places) in
    let agree = both_shared s c.args.parts.now c.requires.parts shared in
    let alone : shared c.args.shape ≡ false = sym c.contains.ensures ∙ c.if-not-contains.true in
    let pushed : map places_of c.push.new.self.items ≡ rows ++ x ∷ [] =
    ap (map places_of) c.in_ok-push.ensures.items ∙ map_push places_of c.args.kept.now.rows.items c.args.set.now in
    record {
      compared = alone_stays (IsLeavable s) (leave_same s) is_shared agree rows _ x c.requires.kept.compared
          (ap shared (sym c.requires.shape) ∙ alone)
          ∙ ap (filter is_shared) (sym pushed);
      leavable = subst (All (IsLeavable s)) (sym pushed) (All-push (IsLeavable s) rows x c.requires.kept.leavable c.requires.set);
      found = c.requires.kept.found;
      met = c.requires.kept.met;
    }

pub returns-then-not-branch-clause-sets : goal.returns-then-not-branch-clause-sets
returns-then-not-branch-clause-sets c =
    let s = c.args.scene.now in
    let tables = c.args.parts.now.tables in
    let shared = contains nat_cmp c.args.shared.now in
    let x = places_of c.args.set.now in
    let rows = map places_of c.args.kept.now.rows.items in
    let is_shared : List ℕ → Bool = λ places. shared (shape_left tables places) in
    let agree = both_shared s c.args.parts.now c.requires.parts shared in
    let its : is_shared x ≡ true = ap shared (sym c.requires.shape) ∙ sym c.contains.ensures ∙ c.if-not-contains.false in
    compared_met (IsLeavable s) (leave_same s) is_shared agree rows _ x c.in_ok-keep.field-0 c.requires.kept.leavable c.requires.set
    c.requires.kept.compared its c.in_ok-keep.ensures.new c.if-not-branch.true

pub returns-then-not-branch-clause-kept : goal.returns-then-not-branch-clause-kept
returns-then-not-branch-clause-kept c =
    let s = c.args.scene.now in
    let tables = c.args.parts.now.tables in
    let shared = contains nat_cmp c.args.shared.now in
    let x = places_of c.args.set.now in
    let rows = map places_of c.args.kept.now.rows.items in
    let is_shared : List ℕ → Bool = λ places. shared (shape_left tables places) in
    let agree = both_shared s c.args.parts.now c.requires.parts shared in
    record {
      compared = compared_stays (IsLeavable s) (leave_same s) is_shared agree rows _ _ x c.in_ok-keep.field-0 c.requires.kept.compared
          c.in_ok-keep.ensures.sets c.in_ok-keep.ensures.new c.if-not-branch.true;
      leavable = c.requires.kept.leavable;
      found = c.in_ok-keep.ensures.kept;
      met = c.in_ok-keep.ensures.met;
    }

pub returns-clause-sets : goal.returns-clause-sets
returns-clause-sets c =
    let s = c.args.scene.now in
    let tables = c.args.parts.now.tables in
    let shared = contains nat_cmp c.args.shared.now in
    let x = places_of c.args.set.now in
    let rows = map places_of c.args.kept.now.rows.items in
    let is_shared : List ℕ → Bool = λ places. shared (shape_left tables places) in
    let agree = both_shared s c.args.parts.now c.requires.parts shared in
    let its : is_shared x ≡ true = ap shared (sym c.requires.shape) ∙ sym c.contains.ensures ∙ c.if-not-contains.false in
    let pushed : map places_of c.push-2.new.self.items ≡ rows ++ x ∷ [] =
    ap (map places_of) c.in_ok-push-2.ensures.items ∙ map_push places_of c.args.kept.now.rows.items c.args.set.now in
    pushed
    ∙ compared_new (IsLeavable s) (leave_same s) is_shared agree rows _ x c.in_ok-keep.field-0 c.requires.kept.leavable c.requires.set
    c.requires.kept.compared its c.in_ok-keep.ensures.new c.if-not-branch.false

pub returns-clause-kept : goal.returns-clause-kept
returns-clause-kept c =
    let s = c.args.scene.now in
    let tables = c.args.parts.now.tables in
    let shared = contains nat_cmp c.args.shared.now in
    let x = places_of c.args.set.now in
    let rows = map places_of c.args.kept.now.rows.items in
    let is_shared : List ℕ → Bool = λ places. shared (shape_left tables places) in
    let agree = both_shared s c.args.parts.now c.requires.parts shared in
    let its : is_shared x ≡ true = ap shared (sym c.requires.shape) ∙ sym c.contains.ensures ∙ c.if-not-contains.false in
    let pushed : map places_of c.push-2.new.self.items ≡ rows ++ x ∷ [] =
    ap (map places_of) c.in_ok-push-2.ensures.items ∙ map_push places_of c.args.kept.now.rows.items c.args.set.now in
    record {
      compared = compared_grows (IsLeavable s) (leave_same s) is_shared agree rows _ _ x c.in_ok-keep.field-0 c.requires.kept.compared its
          c.in_ok-keep.ensures.sets c.in_ok-keep.ensures.new c.if-not-branch.false
          ∙ ap (filter is_shared) (sym pushed);
      leavable = subst (All (IsLeavable s)) (sym pushed) (All-push (IsLeavable s) rows x c.requires.kept.leavable c.requires.set);
      found = c.in_ok-keep.ensures.kept;
      met = c.in_ok-keep.ensures.met;
    }
