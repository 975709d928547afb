use Rattle.std.proofs.Common.{◌≡◌, ℕ, Some, slice_get, sym, ap, ◌∙◌, subst, arith}
use Rattle.cs_frozen.specs.Numbers.{numbers_of}
use Rattle.cs_frozen.proofs.Tabling.{numbers_are, numbers_apart, numbers_below, places_are}
use Rattle.cs_frozen.proofs.numbering.number_tables.Goals as goal

pub places_of-requires : goal.places_of-requires
places_of-requires g c =
    let own : c.deref.result.now ≡ numbers_of (g.T.TreeRead.tree c.args.tree.now).files =
    c.deref.ensures.value ∙
    (c.in_ok-numbers.ensures.items ∙ numbers_are (g.T.TreeRead.tree c.args.tree.now) c.in_ok-paths.paths c.in_ok-numbers.ensures.ordered
    c.in_ok-paths.ensures) in
    record {
      below = λ i n is.
          (let lt =
          numbers_below (g.T.TreeRead.tree c.args.tree.now) c.count-count.ensures.is_tree i n (ap (λ l. slice_get l i) (sym own) ∙ is) in
          omega (arith, lt, c.last_number.ensures, c.in-Some.ensures));
      apart = subst (λ l. (i j n : ℕ) → slice_get l i ≡ Some n → slice_get l j ≡ Some n → i ≡ j) (sym own)
          (numbers_apart (g.T.TreeRead.tree c.args.tree.now) c.count-count.ensures.is_tree);
    }

pub returns : goal.returns
returns g c = record {
  tree = c.count-count.ensures.is_tree;
  own = c.in_ok-numbers.ensures.items ∙ numbers_are (g.T.TreeRead.tree c.args.tree.now) c.in_ok-paths.paths c.in_ok-numbers.ensures.ordered
      c.in_ok-paths.ensures;
  place = places_are (g.T.TreeRead.tree c.args.tree.now) c.deref.result.now (slice_get c.in_ok-places.places.items)
      (c.deref.ensures.value ∙
      (c.in_ok-numbers.ensures.items ∙ numbers_are (g.T.TreeRead.tree c.args.tree.now) c.in_ok-paths.paths c.in_ok-numbers.ensures.ordered
      c.in_ok-paths.ensures)) c.in_ok-places.ensures;
}
